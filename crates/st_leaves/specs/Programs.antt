-- The leaves of a program.
use Rattle.std.specs.Prelude.{ℕ, suc, ◌-◌, List, [], ◌∷◌, ◌++◌}
use Rattle.st_values.specs.Words.{raised}
use Rattle.st_tree.specs.declared.leaf.Leaf.{Leaf}
use Rattle.st_tree.specs.declared.leaf.Role.{Role}
use Rattle.st_tree.specs.declared.leaf.Role.TheVariants.{Plain, ProcessInput, Hidden, ChartBegun, StepActive, StepPulsed, StepTime}
use Rattle.st_types.specs.Compositions.{composition_of}
use Rattle.st_types.specs.Names.{Named}
use Rattle.st_leaves.specs.LeavesIn.{LeafIn, Use, active, begun, elapsed, hidden, input, leaves_of_whole, plain, pulsed}
use Rattle.st_leaves.specs.Paths.{path_text}

-- the role of the leaf of this number
abbrev pub role_at : ℕ → Use → Role
role_at n plain = Plain
role_at n input = ProcessInput
role_at n hidden = Hidden
role_at n begun = ChartBegun
role_at n (active back) = StepActive (n - back)
role_at n elapsed = StepTime
role_at n (pulsed active_back begun_back) = StepPulsed (n - active_back) (n - begun_back)

-- the leaf of this number, in a program that is declared by this name
abbrev pub leaf_at : List ℕ → ℕ → LeafIn → Leaf
leaf_at main n l = record {
  path = raised (main ++ path_text l.path);
  shown = main ++ path_text l.path;
  spine = l.spine;
  elem = l.initial.elem;
  initial = l.initial;
  role = role_at n l.use';
}

-- one after the other, with the numbers from this one on
abbrev pub leaves_from : List ℕ → ℕ → List LeafIn → List Leaf
leaves_from main n [] = []
leaves_from main n (l ∷ leaves) = leaf_at main n l ∷ leaves_from main (suc n) leaves

-- the leaves of a unit of a text as its program
unfoldable pub program_leaves : List Named → Named → List Leaf
program_leaves units program = leaves_from program.name.spelling 0 (leaves_of_whole (composition_of units program.declares))
