-- What is so of units: their charts, and in a checked program their instances, their bounds and their names.
use Rattle.std.specs.Prelude.{◌≡◌, ℕ, ◌<◌, true, List, Some}
use Rattle.std.specs.List.{slice_get}
use Rattle.st_check.specs.Programs.{IsChecked, ProgramView, order_of, text_of}
use Rattle.st_leaves.specs.Bounds.{HasBounds}
use Rattle.st_leaves.specs.Distinct.{HasDistinctNames}
use Rattle.st_leaves.specs.Selected.{selected_by}
use Rattle.st_meaning.specs.Offsets.{HasSmallArrays}
use Rattle.st_meaning.specs.Steps.{chart_within}
use Rattle.st_meaning.specs.Units.{body_of_unit, root_of, unit_whole}
use Rattle.st_meaning.specs.Wholes.{Invoked}
use Rattle.st_places.specs.Parts.{is_block, is_function}
use Rattle.st_types.specs.Names.{Named, chart_in, unit_at, units_of}

-- The name is that of an instance in a unit: of a function block, whose variables it has, whose body is invoked, and which stands
-- before the unit in the order.
pub record IsInstance (units : List Named) (order : List ℕ) (i : ℕ) (u : Named) (name : List ℕ) (found : Invoked) : Type 0 where
  pub block : Named
  pub at : unit_at units found.number ≡ Some block
  pub is_block : is_block block.declares ≡ true
  pub same : selected_by (root_of units u) name ≡ root_of units block
  pub body : found.body ≡ body_of_unit units found.number block
  pub before : (p q : ℕ) → slice_get order p ≡ Some found.number → slice_get order q ≡ Some i → p < q

-- what is invoked in a unit of a checked program is an instance of a function block
abbrev pub InstancesAreOfBlocks : Type 0
InstancesAreOfBlocks = (program : ProgramView) → IsChecked program → (i : ℕ) (u : Named) → unit_at (units_of (text_of program)) i ≡ Some u
    → (name : List ℕ) (found : Invoked) → (unit_whole (units_of (text_of program)) u).invoked name ≡ Some found
    → IsInstance (units_of (text_of program)) (order_of program) i u name found

-- The bounds of a unit's arrays are numbers of LINT, and no two members and steps of one whole in it have the same name. A function
-- has no large array, since each of its variables is one value (2.5.1).
pub record IsSoundUnit (units : List Named) (u : Named) : Type 0 where
  pub bounds : HasBounds (root_of units u)
  pub distinct : HasDistinctNames (root_of units u)
  pub arrays : is_function u.declares ≡ true → HasSmallArrays (root_of units u)

-- all units of a checked program are such
abbrev pub UnitsAreSound : Type 0
UnitsAreSound = (program : ProgramView) → IsChecked program → (i : ℕ) (u : Named) → unit_at (units_of (text_of program)) i ≡ Some u
    → IsSoundUnit (units_of (text_of program)) u

-- the chart that the variables of a unit end with is that of its body
abbrev pub ChartsAreInBodies : Type 0
ChartsAreInBodies = (units : List Named) (u : Named) → chart_within (root_of units u) ≡ chart_in u.declares
