-- Which step a leaf belongs to that tells whether a step has given its pulses.
use Rattle.std.specs.Prelude.{◌≡◌, ◌<◌, ◌++◌, ℕ, List, codes, length}
use Rattle.st_check.specs.Programs.{ProgramView, leaves_of_program}
use Rattle.st_layout.specs.Layout.{leaf_at}
use Rattle.st_tree.specs.declared.leaf.Leaf.{Leaf}
use Rattle.st_tree.specs.declared.leaf.Role.TheVariants.{ChartBegun, StepActive, StepPulsed}

-- the path of what a step keeps under a name, behind the path of the whole whose chart has the step
abbrev pub of_step : List ℕ → List ℕ → List ℕ → List ℕ
of_step whole step name = whole ++ (codes "." ++ (step ++ name))

-- the leaf is the `$P` of a step, the second one the X of this very step, and the third one the `$CHART` of its chart
pub record IsPulse (leaves : List Leaf) (i active begun : ℕ) : Type 0 where
  pub whole : List ℕ
  pub step : List ℕ
  pub pulse_path : (leaf_at leaves i).path ≡ of_step whole step (codes ".$P")
  pub flag_path : (leaf_at leaves active).path ≡ of_step whole step (codes ".X")
  pub flag_role : (leaf_at leaves active).role ≡ StepActive begun
  pub chart_path : (leaf_at leaves begun).path ≡ whole ++ codes ".$CHART"
  pub chart_role : (leaf_at leaves begun).role ≡ ChartBegun

-- The two numbers of such a leaf are those of its own step, and of the chart of this step.
abbrev pub PulsesNameTheirSteps : Type 0
PulsesNameTheirSteps = (program : ProgramView) (i active begun : ℕ) → i < length (leaves_of_program program)
    → (leaf_at (leaves_of_program program) i).role ≡ StepPulsed active begun → IsPulse (leaves_of_program program) i active begun
