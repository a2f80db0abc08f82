-- What one invocation of a sequential function chart does to its steps, its stored flags and its names.
use Rattle.std.specs.Int.{int_wrapping_sub, w64}
use Rattle.std.specs.Prelude.{◌≡◌, ℕ, zero, suc, ◌<◌, ℤ, pos, Bool, true, false, ◌&&◌, ◌||◌, ◌==◌, not, int_le, int_lt, if◌then◌else◌, List, get_or, length}
use Rattle.std.specs.List.{list_all, list_any}
use Rattle.st_charts.specs.Passages.{Passage, Set, comes_before, members, passage, share_step, some_below}
use Rattle.st_charts.specs.declared.step.StepCell.{StepCell}
use Rattle.st_charts.specs.declared.table.Link.{Link}
use Rattle.st_charts.specs.declared.table.Qualifier.{Qualifier}
use Rattle.st_charts.specs.declared.table.Qualifier.TheVariants.{NonStored, Reset, Stored, Limited, Delayed, Pulse}

-- ---- steps by their numbers

abbrev pub no_step : StepCell
no_step = record { active = false; elapsed = pos 0; since = pos 0; pulsed = false }

-- the step with this number
abbrev pub step_in : List StepCell → ℕ → StepCell
step_in cells s = get_or cells s no_step

-- the active steps
abbrev pub active_in : List StepCell → Set
active_in cells s = (step_in cells s).active

-- ---- times

-- An active step has been active for as long as has gone since it became so. Where the chart only begins, it becomes so now.
abbrev pub timed : Bool → ℤ → StepCell → StepCell
timed begun now step =
    if step.active then
    (if begun then record step { elapsed = int_wrapping_sub w64 now step.since } else record step { elapsed = pos 0; since = now })
    else step

-- ---- transitions that are cleared

-- A transition is enabled where all steps before it are active.
abbrev pub is_enabled : List Passage → Set → ℕ → Bool
is_enabled ts active t = list_all active (passage ts t).before

-- A transition that comes before this one is in the set, and shares a preceding step with it.
abbrev pub is_forestalled : List Passage → Set → ℕ → Bool
is_forestalled ts cleared t = some_below (length ts) (λ u. comes_before ts u t && (cleared u && share_step ts u t))

-- The cleared transitions are those that are enabled and whose condition is TRUE, but for one that shares a preceding step with
-- a cleared one that comes before it.
abbrev pub AreCleared : List Passage → Set → Set → Set → Type 0
AreCleared ts active holds cleared =
    (t : ℕ) → t < length ts → cleared t ≡ (holds t && (is_enabled ts active t && not (is_forestalled ts cleared t)))

-- The same set, worked out: whether a transition is cleared follows from which are of those that come before it, and so on, as far
-- as there are transitions. There is no other such set (`ClearedAreDetermined` of Laws).
abbrev pub cleared_within : ℕ → List Passage → Set → Set → Set
cleared_within zero ts active holds t = false
cleared_within (suc n) ts active holds t =
    holds t && (is_enabled ts active t && not (is_forestalled ts (cleared_within n ts active holds) t))

abbrev pub cleared_of : List Passage → Set → Set → Set
cleared_of ts active holds = cleared_within (length ts) ts active holds

-- No condition is asked at the invocation at which the chart begins.
abbrev pub asked : Bool → Set → Set
asked begun holds t = begun && holds t

-- ---- steps behind them

-- A cleared transition leaves the steps before it,
abbrev pub is_left : List Passage → Set → Set
is_left ts cleared s = some_below (length ts) (λ t. cleared t && members (passage ts t).before s)

-- and enters those after it.
abbrev pub is_entered : List Passage → Set → Set
is_entered ts cleared s = some_below (length ts) (λ t. cleared t && members (passage ts t).after s)

-- A step that is left isn't active, nor has it pulsed; then one that is entered is active since now.
abbrev pub moved : Bool → Bool → ℤ → StepCell → StepCell
moved left entered now step = record {
  active = (step.active && not left) || entered;
  elapsed = if entered then pos 0 else step.elapsed;
  since = if entered then now else step.since;
  pulsed = step.pulsed && not left;
}

-- a step as the names see it: with its times, and behind the cleared transitions
abbrev pub step_between : List Passage → Set → Bool → ℤ → (ℕ → StepCell) → ℕ → StepCell
step_between ts cleared begun now steps s = moved (is_left ts cleared s) (is_entered ts cleared s) now (timed begun now (steps s))

-- A step has pulsed where it was active at the last invocation.
abbrev pub remembered : StepCell → StepCell
remembered step = record step { pulsed = step.active }

-- ---- names

abbrev pub is_reset : Qualifier → Bool
is_reset Reset = true
is_reset q = false

abbrev pub is_stored : Qualifier → Bool
is_stored Stored = true
is_stored q = false

-- N shows a name always, L until its step has been active for the time, D from then on, and P where its step hasn't pulsed.
abbrev pub is_shown : Qualifier → ℤ → StepCell → Bool
is_shown NonStored time step = true
is_shown Limited time step = int_lt step.elapsed time
is_shown Delayed time step = int_le time step.elapsed
is_shown Pulse time step = not step.pulsed
is_shown Reset time step = false
is_shown Stored time step = false

abbrev pub resets : Link → StepCell → Bool
resets link step = is_reset link.qualifier

abbrev pub stores : Link → StepCell → Bool
stores link step = is_stored link.qualifier

abbrev pub shows : Link → StepCell → Bool
shows link step = is_shown link.qualifier link.time step

-- An active step has an association with this name that does so.
abbrev pub is_named : List Link → (ℕ → StepCell) → (Link → StepCell → Bool) → ℕ → Bool
is_named links steps does n =
    list_any (λ link. link.name == n && ((steps link.step).active && does link (steps link.step))) links

-- the stored flag of a name: FALSE by R, else TRUE by S, else what it was
abbrev pub stored_after : List Link → (ℕ → StepCell) → Set → Set
stored_after links steps stored n = not (is_named links steps resets n) && (is_named links steps stores n || stored n)

-- A name is off by R. Else it is on where its stored flag is TRUE, or an association shows it.
abbrev pub is_on : List Link → (ℕ → StepCell) → Set → Set
is_on links steps stored n =
    not (is_named links steps resets n) && (stored_after links steps stored n || is_named links steps shows n)
