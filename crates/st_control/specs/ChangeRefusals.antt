-- When an online change is refused for its pairs or its charts, by the paths of leaves.
use Rattle.std.specs.Prelude.{ℕ, ◌≡◌, ◌<◌, ◌⊎◌, ◌↔◌, true, false, List, length, Err, Ok}
use Rattle.st_check.specs.Programs.{ProgramView, leaves_of_program}
use Rattle.st_control.specs.Causes.{no_active_step, not_paired}
use Rattle.st_control.specs.Changes.{gives_pairs, loses_active_step}
use Rattle.st_control.specs.Laws.{IsSoundProgram}
use Rattle.st_control.specs.Machine.{Machine, is_full, step}
use Rattle.st_control.specs.Machine.Command.{change}
use Rattle.st_control.specs.States.{IsWhole, leaves_of}
use Rattle.st_memory.specs.Memory.{value_at}
use Rattle.st_memory.specs.Moves.{is_true}
use Rattle.st_layout.specs.Layout.{leaf_at}
use Rattle.st_layout.specs.Pairs.{are_alike, is_pairable, names_wrongly, targets_of}
use Rattle.st_layout.specs.Renames.{renamed}
use Rattle.st_layout.specs.declared.renames.Rename.{Rename}
use Rattle.st_leaves.specs.Sound.{IsSound}
use Rattle.st_tree.specs.declared.leaf.Leaf.{Leaf}
use Rattle.st_tree.specs.declared.leaf.Role.TheVariants.{ChartBegun, StepActive}
use Rattle.st_values.specs.declared.value.Value.{Value}

module _ (old new : List Leaf) (renames : List Rename) where
  -- the old leaf goes to the new one, which has its renamed path and is alike
  pub record GoesTo (i j : ℕ) : Type 0 where
    pub below : i < length old
    pub there : j < length new
    pub path : (leaf_at new j).path ≡ renamed renames (leaf_at old i).path
    pub alike : are_alike (leaf_at old i) (leaf_at new j) ≡ true

  -- two old leaves go to one
  pub record TwoGoToOne : Type 0 where
    pub first : ℕ
    pub second : ℕ
    pub target : ℕ
    pub apart : first < second
    pub first_goes : GoesTo first target
    pub second_goes : GoesTo second target

  -- a step goes to a new leaf that isn't one of the chart to which its own chart goes
  pub record StepLeavesChart : Type 0 where
    pub leaf : ℕ
    pub target : ℕ
    pub chart : ℕ
    pub role : (leaf_at old leaf).role ≡ StepActive chart
    pub goes : GoesTo leaf target
    pub apart : (other : ℕ) → GoesTo chart other → (leaf_at new target).role ≡ StepActive other → ⊥

  -- the renames name parts that they may not name, or which leaf goes to which gives no pairs
  abbrev pub HaveNoPairs : Type 0
  HaveNoPairs = (names_wrongly old new renames ≡ true) ⊎ (TwoGoToOne ⊎ StepLeavesChart)

  -- a chart goes to a new leaf, and of its steps none does that is active
  pub record ChartStops (values : List Value) : Type 0 where
    pub chart : ℕ
    pub target : ℕ
    pub role : (leaf_at old chart).role ≡ ChartBegun
    pub goes : GoesTo chart target
    pub none : (i j : ℕ) → (leaf_at old i).role ≡ StepActive chart → GoesTo i j → is_true (value_at values i) ≡ false

-- two lists of sound leaves have no pairs exactly then
abbrev pub NoPairsByPath : Type 0
NoPairsByPath = (old new : List Leaf) (renames : List Rename) → IsSound old → IsSound new → (is_pairable old new renames ≡ false) ↔ HaveNoPairs old new renames

-- and a chart stops exactly then
abbrev pub StopsByPath : Type 0
StopsByPath = (old new : List Leaf) (renames : List Rename) (values : List Value) → IsSound old → IsSound new
    → (loses_active_step old (targets_of old new renames) values ≡ true) ↔ ChartStops old new renames values

-- Where the undo list isn't full, an online change to a program is refused as O13 exactly where the leaves have no pairs.
abbrev pub RefusedForPairs : Type 0
RefusedForPairs = (renames : List Rename) (program : ProgramView) (m : Machine) → IsWhole m.state → IsSoundProgram program → is_full m ≡ false
    → (step (change renames (Ok program)) m ≡ Err not_paired) ↔ HaveNoPairs (leaves_of m.state) (leaves_of_program program) renames

-- And where they have pairs it is refused as O8 exactly where a chart stops.
abbrev pub RefusedForCharts : Type 0
RefusedForCharts = (renames : List Rename) (program : ProgramView) (m : Machine) → IsWhole m.state → IsSoundProgram program → is_full m ≡ false
    → gives_pairs m.state renames program ≡ true
    → (step (change renames (Ok program)) m ≡ Err no_active_step) ↔ ChartStops (leaves_of m.state) (leaves_of_program program) renames m.state.content.values
