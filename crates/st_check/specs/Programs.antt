-- Checked programs.
use Rattle.std.specs.Prelude.{◌≡◌, ℕ, suc, nat_eq, true, false, if◌then◌else◌, List, [], ◌∷◌, length, Option, Some, None}
use Rattle.st_tree.specs.declared.leaf.Leaf.{Leaf}
use Rattle.st_tree.specs.declared.tree.unit.Unit.{Unit as Section}
use Rattle.st_types.specs.Names.{Named, unit_at, units_of}
use Rattle.st_references.specs.Graphs.{IsOrder}
use Rattle.st_references.specs.References.{graph_of}
use Rattle.st_leaves.specs.Leaves.{leaves_of}
use Rattle.st_leaves.specs.Limits.{is_too_large}
use Rattle.st_leaves.specs.Programs.{program_leaves}
use Rattle.st_check_units.specs.Units.{node_faults}
use Rattle.st_check.specs.Faults.{is_program}

-- a text, the number of its main program, and the numbers of its units in an order in which each stands after all that it contains and calls
abbrev pub ProgramView : Type 0
ProgramView = List Section × (ℕ × List ℕ)

abbrev pub text_of : ProgramView → List Section
text_of program = program.0

abbrev pub main_of : ProgramView → ℕ
main_of program = program.1.0

abbrev pub order_of : ProgramView → List ℕ
order_of program = program.1.1

-- the place of a unit in an order
abbrev pub level_in : List ℕ → ℕ → ℕ
level_in [] number = 0
level_in (n ∷ order) number = if nat_eq n number then 0 else suc (level_in order number)

-- no rule but that of sizes is broken in a text, and this is an order of its units
pub record IsOrdered (text : List Section) (order : List ℕ) : Type 0 where
  pub faultless : node_faults (units_of text) ≡ []
  pub ordered : IsOrder (graph_of (units_of text)) order

-- what holds of each program that was checked
pub record IsProgram (text : List Section) (main : ℕ) (order : List ℕ) : Type 0 where
  pub faultless : node_faults (units_of text) ≡ []
  pub ordered : IsOrder (graph_of (units_of text)) order
  pub unit : Named
  pub found : unit_at (units_of text) main ≡ Some unit
  pub program : is_program unit.declares ≡ true
  pub small : is_too_large (length unit.name.spelling) (leaves_of (units_of text) unit.declares) ≡ false

abbrev pub IsChecked : ProgramView → Type 0
IsChecked program = IsProgram (text_of program) (main_of program) (order_of program)

-- ---- its leaves

abbrev pub optional_leaves : List Named → Option Named → List Leaf
optional_leaves units None = []
optional_leaves units (Some unit) = program_leaves units unit

-- the leaves of the main program
unfoldable pub leaves_of_program : ProgramView → List Leaf
leaves_of_program program = optional_leaves (units_of (text_of program)) (unit_at (units_of (text_of program)) (main_of program))
