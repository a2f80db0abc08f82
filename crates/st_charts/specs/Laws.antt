-- Laws of charts, in an engineer's words.
use Rattle.std.specs.Int.{int_wrapping_sub, w64}
use Rattle.std.specs.Prelude.{◌≡◌, ◌≢◌, ℕ, ◌<◌, ℤ, pos, Bool, false, ◌&&◌, ◌||◌, not, IsFalse, IsTrue, List, length}
use Rattle.std.specs.List.{Contains}
use Rattle.st_charts.specs.Charts.{AreCleared, asked, cleared_of, is_enabled, is_entered, is_left, is_on, is_shown, remembered, resets, shows, step_between, stored_after, stores, timed}
use Rattle.st_charts.specs.Outcomes.{IsOutcome, Outcome, invoked}
use Rattle.st_charts.specs.Passages.{IsByPriority, Passage, Set, comes_before, members, passage, share_step}
use Rattle.st_charts.specs.declared.step.StepCell.{StepCell}
use Rattle.st_charts.specs.declared.table.Link.{Link}
use Rattle.st_charts.specs.declared.table.Qualifier.TheVariants as qualifiers

-- ---- which transitions are cleared

-- A step precedes a transition, or follows it.
abbrev pub Precedes : List Passage → ℕ → ℕ → Type 0
Precedes ts s t = IsTrue (members (passage ts t).before s)

abbrev pub Follows : List Passage → ℕ → ℕ → Type 0
Follows ts s t = IsTrue (members (passage ts t).after s)

-- Of two transitions one comes before the other, and not the other before it.
abbrev pub OneComesBefore : Type 0
OneComesBefore = (ts : List Passage) (t u : ℕ) → t ≢ u → comes_before ts u t ≡ not (comes_before ts t u)

-- A transition that is cleared has a condition that is TRUE, and all steps before it are active.
abbrev pub OnlyEnabledAreCleared : Type 0
OnlyEnabledAreCleared =
    (ts : List Passage) (active holds cleared : Set) → AreCleared ts active holds cleared
    → (t : ℕ) → t < length ts → IsTrue (cleared t) → IsTrue (holds t) × ((s : ℕ) → Precedes ts s t → IsTrue (active s))

-- Of the transitions that a step precedes, at most one is cleared.
abbrev pub OneIsClearedOfAStep : Type 0
OneIsClearedOfAStep =
    (ts : List Passage) (active holds cleared : Set) → AreCleared ts active holds cleared
    → (s t u : ℕ) → t < length ts → u < length ts → t ≢ u → Precedes ts s t → Precedes ts s u → IsTrue (cleared t) → IsFalse (cleared u)

-- A transition that is enabled and whose condition is TRUE is cleared where no such one that comes before it shares a step with
-- it,
abbrev pub FirstIsCleared : Type 0
FirstIsCleared =
    (ts : List Passage) (active holds cleared : Set) → AreCleared ts active holds cleared
    → (t : ℕ) → t < length ts → IsTrue (holds t) → IsTrue (is_enabled ts active t)
    → ((u : ℕ) → u < length ts → IsTrue (comes_before ts u t) → IsTrue (share_step ts u t) → IsTrue (holds u) → IsFalse (is_enabled ts active u))
    → IsTrue (cleared t)

-- a cleared transition that comes before this one and shares a step with it
pub record ClearedBefore (ts : List Passage) (cleared : Set) (t : ℕ) : Type 0 where
  pub other : ℕ
  pub within : other < length ts
  pub before : IsTrue (comes_before ts other t)
  pub is_cleared : IsTrue (cleared other)
  pub shares : IsTrue (share_step ts other t)

-- and where it isn't cleared, one that comes before it is and shares a step with it.
abbrev pub OnlySharedAreKept : Type 0
OnlySharedAreKept =
    (ts : List Passage) (active holds cleared : Set) → AreCleared ts active holds cleared
    → (t : ℕ) → t < length ts → IsTrue (holds t) → IsTrue (is_enabled ts active t) → IsFalse (cleared t) → ClearedBefore ts cleared t

-- There is one set of cleared transitions and no other.
abbrev pub ClearedAreDetermined : Type 0
ClearedAreDetermined =
    (ts : List Passage) (order : List ℕ) (active holds : Set) → IsByPriority ts order
    → AreCleared ts active holds (cleared_of ts active holds)
    × ((cleared : Set) → AreCleared ts active holds cleared → (t : ℕ) → t < length ts → cleared t ≡ cleared_of ts active holds t)

-- None is cleared at the invocation at which a chart begins.
abbrev pub NoneIsClearedAtFirst : Type 0
NoneIsClearedAtFirst =
    (ts : List Passage) (active holds cleared : Set) → AreCleared ts active (asked false holds) cleared
    → (t : ℕ) → t < length ts → IsFalse (cleared t)

-- ---- steps

-- what becomes of a step that stays as it is
pub record Stays (begun : Bool) (now : ℤ) (old new : StepCell) : Type 0 where
  pub active : new.active ≡ old.active
  pub pulsed : new.pulsed ≡ old.pulsed
  -- The moment since which it is active stays, and the time runs from there.
  pub since : IsTrue begun → new.since ≡ old.since
  pub elapsed : IsTrue begun → IsTrue old.active → new.elapsed ≡ int_wrapping_sub w64 now old.since

-- A step that no cleared transition leaves or enters stays as it is.
abbrev pub OthersStay : Type 0
OthersStay =
    (ts : List Passage) (cleared : Set) (begun : Bool) (now : ℤ) (steps : ℕ → StepCell) (s : ℕ)
    → ((t : ℕ) → t < length ts → IsTrue (cleared t) → (Precedes ts s t → ⊥) × (Follows ts s t → ⊥))
    → Stays begun now (steps s) (step_between ts cleared begun now steps s)

-- a step that is active since now
pub record IsNew (now : ℤ) (step : StepCell) : Type 0 where
  pub active : IsTrue step.active
  pub elapsed : step.elapsed ≡ pos 0
  pub since : step.since ≡ now

-- A step that follows a cleared transition is active since now.
abbrev pub FollowersAreNew : Type 0
FollowersAreNew =
    (ts : List Passage) (cleared : Set) (begun : Bool) (now : ℤ) (steps : ℕ → StepCell) (s t : ℕ)
    → t < length ts → IsTrue (cleared t) → Follows ts s t → IsNew now (step_between ts cleared begun now steps s)

-- One that precedes a cleared transition has not pulsed, and is active only where one follows it.
abbrev pub PredecessorsAreLeft : Type 0
PredecessorsAreLeft =
    (ts : List Passage) (cleared : Set) (begun : Bool) (now : ℤ) (steps : ℕ → StepCell) (s t : ℕ)
    → t < length ts → IsTrue (cleared t) → Precedes ts s t
    → IsFalse (step_between ts cleared begun now steps s).pulsed × ((step_between ts cleared begun now steps s).active ≡ is_entered ts cleared s)

-- ---- names

-- some active step has an association with this name that does so
pub record HasActive (links : List Link) (steps : ℕ → StepCell) (n : ℕ) (does : Link → StepCell → Bool) : Type 0 where
  pub link : Link
  pub listed : Contains links link
  pub name : link.name ≡ n
  pub active : IsTrue (steps link.step).active
  pub effect : IsTrue (does link (steps link.step))

-- R wins over all.
abbrev pub ResetWins : Type 0
ResetWins =
    (links : List Link) (steps : ℕ → StepCell) (stored : Set) (n : ℕ) → HasActive links steps n resets
    → IsFalse (stored_after links steps stored n) × IsFalse (is_on links steps stored n)

-- Where no step resets a name, S stores it, and it is on where it is stored or shown.
abbrev pub NamesAreOn : Type 0
NamesAreOn =
    (links : List Link) (steps : ℕ → StepCell) (stored : Set) (n : ℕ) → (HasActive links steps n resets → ⊥)
    → (HasActive links steps n stores → IsTrue (stored_after links steps stored n))
    × ((HasActive links steps n stores → ⊥) → stored_after links steps stored n ≡ stored n)
    × (IsTrue (stored_after links steps stored n) → IsTrue (is_on links steps stored n))
    × (HasActive links steps n shows → IsTrue (is_on links steps stored n))

-- A name that is neither stored nor shown is off.
abbrev pub NamesAreOff : Type 0
NamesAreOff =
    (links : List Link) (steps : ℕ → StepCell) (stored : Set) (n : ℕ)
    → IsFalse (stored_after links steps stored n) → (HasActive links steps n shows → ⊥) → IsFalse (is_on links steps stored n)

-- A step has become active that is, and wasn't behind the last invocation or has been left since.
abbrev pub has_become_active : StepCell → Bool → StepCell → Bool
has_become_active last left step = step.active && (not last.active || left)

-- P shows its name at the one invocation at which the step becomes active: the last one kept which steps were.
abbrev pub PulsesOnce : Type 0
PulsesOnce =
    (ts : List Passage) (cleared : Set) (begun : Bool) (now time : ℤ) (last steps : ℕ → StepCell) (s : ℕ) → steps s ≡ remembered (last s)
    → ((step_between ts cleared begun now steps s).active && is_shown qualifiers.Pulse time (step_between ts cleared begun now steps s))
    ≡ has_become_active (last s) (is_left ts cleared s) (step_between ts cleared begun now steps s)

-- ---- an invocation as a whole

-- An invocation has one outcome.
abbrev pub InvocationsHaveOneOutcome : Type 0
InvocationsHaveOneOutcome =
    (ts : List Passage) (order : List ℕ) (links : List Link) (begun : Bool) (cells : List StepCell) (flags conditions : List Bool) (now : ℤ) (o : Outcome)
    → IsByPriority ts order → IsOutcome ts links begun cells flags conditions now o → o ≡ invoked ts links begun cells flags conditions now

-- Times that are set twice at one moment are as if they were set once, and no step becomes active by it.
abbrev pub TimesAreSetOnce : Type 0
TimesAreSetOnce =
    (begun : Bool) (now : ℤ) (step : StepCell)
    → (timed begun now (timed begun now step) ≡ timed begun now step) × ((timed begun now step).active ≡ step.active)
