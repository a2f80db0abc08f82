-- One invocation as a whole: what it leaves of what a chart keeps, and what it says.
use Rattle.std.specs.Prelude.{◌≡◌, ℕ, ◌<◌, ℤ, Bool, List, length, map}
use Rattle.std.specs.List.{range_with_len}
use Rattle.st_charts.specs.Charts.{AreCleared, active_in, asked, cleared_of, is_on, remembered, step_between, step_in, stored_after}
use Rattle.st_charts.specs.Passages.{Passage, Set, marked}
use Rattle.st_charts.specs.declared.step.StepCell.{StepCell}
use Rattle.st_charts.specs.declared.table.Link.{Link}

pub record Outcome : Type 0 where
  -- which transitions were cleared
  pub cleared : List Bool
  pub steps : List StepCell
  -- the stored flags of the names
  pub flags : List Bool
  -- which names are on
  pub on : List Bool

-- what the definitions say of an invocation
pub record IsOutcome (ts : List Passage) (links : List Link) (begun : Bool) (cells : List StepCell) (flags conditions : List Bool) (now : ℤ) (o : Outcome) : Type 0 where
  pub cleared_count : length o.cleared ≡ length ts
  pub steps_count : length o.steps ≡ length cells
  pub flags_count : length o.flags ≡ length flags
  pub on_count : length o.on ≡ length flags
  pub clearing : AreCleared ts (active_in cells) (asked begun (marked conditions)) (marked o.cleared)
  pub stepping : (s : ℕ) → s < length cells → step_in o.steps s ≡ remembered (step_between ts (marked o.cleared) begun now (step_in cells) s)
  pub storing : (n : ℕ) → n < length flags → marked o.flags n ≡ stored_after links (step_between ts (marked o.cleared) begun now (step_in cells)) (marked flags) n
  pub showing : (n : ℕ) → n < length flags → marked o.on n ≡ is_on links (step_between ts (marked o.cleared) begun now (step_in cells)) (marked flags) n

-- the values of a function at the first numbers
abbrev pub values : {X : Type 0} → (ℕ → X) → ℕ → List X
values f count = map f (range_with_len 0 count)

-- the outcome by the cleared transitions and the steps behind them
abbrev pub outcome : List Passage → List Link → List StepCell → List Bool → Set → (ℕ → StepCell) → Outcome
outcome ts links cells flags cleared between = record {
  cleared = values cleared (length ts);
  steps = values (λ s. remembered (between s)) (length cells);
  flags = values (stored_after links between (marked flags)) (length flags);
  on = values (is_on links between (marked flags)) (length flags);
}

-- the outcome, worked out
abbrev pub invoked : List Passage → List Link → Bool → List StepCell → List Bool → List Bool → ℤ → Outcome
invoked ts links begun cells flags conditions now =
    let cleared : Set = cleared_of ts (active_in cells) (asked begun (marked conditions)) in
    outcome ts links cells flags cleared (step_between ts cleared begun now (step_in cells))
