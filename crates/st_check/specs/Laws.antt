-- What follows of the definitions of the checks.
use Rattle.std.specs.Prelude.{◌≡◌, ℕ, suc, ◌++◌, ◌⊎◌, ◌≤◌, List, Some, length}
use Rattle.std.specs.List.{All, Contains}
use Rattle.st_values.specs.Values.{IsValue}
use Rattle.st_values.specs.declared.value.Value.{Value}
use Rattle.st_tree.specs.declared.tree.unit.Function.{Function}
use Rattle.st_tree.specs.declared.tree.unit.Unit.{Unit as Section}
use Rattle.st_faults.specs.declared.fault.Fault.{Fault}
use Rattle.st_types.specs.Compositions.{Composition, elementary, composition_of, composition_within, declared_composition}
use Rattle.st_types.specs.Names.{Named, chart_in, unit_at, units_of, variables_in, variables_of}
use Rattle.st_types.specs.Names as names
use Rattle.st_references.specs.Graphs.{Reaches}
use Rattle.st_references.specs.References.{graph_of}
use Rattle.st_leaves.specs.Bounds.{HasBounds}
use Rattle.st_leaves.specs.Charts.{action_names, stored_of, variable_names}
use Rattle.st_leaves.specs.Distinct.{HasDistinctNames}
use Rattle.st_leaves.specs.LeavesIn.{leaves_of_whole}
use Rattle.st_leaves.specs.Paths.{HasWords}
use Rattle.st_leaves.specs.Places.{count}
use Rattle.st_leaves.specs.Sound.{IsSound}
use Rattle.st_check.specs.Faults.{HasNoProgram, IsAccepted, IsFirst}
use Rattle.st_check.specs.Programs.{IsChecked, ProgramView, leaves_of_program, main_of, text_of}

-- a text is accepted, or has a first fault, or no fault and no such program
abbrev pub IsDecided : Type 0
IsDecided = (text : List Section) (main : List ℕ)
    → ((number : ℕ) × IsAccepted text main number) ⊎ (((f : Fault) × IsFirst text main f) ⊎ HasNoProgram text main)

abbrev pub FirstIsNotAccepted : Type 0
FirstIsNotAccepted = (text : List Section) (main : List ℕ) (f : Fault) (number : ℕ) → IsFirst text main f → IsAccepted text main number → ⊥

abbrev pub MissingIsNotAccepted : Type 0
MissingIsNotAccepted = (text : List Section) (main : List ℕ) (number : ℕ) → HasNoProgram text main → IsAccepted text main number → ⊥

abbrev pub MissingIsNotFirst : Type 0
MissingIsNotFirst = (text : List Section) (main : List ℕ) (f : Fault) → HasNoProgram text main → IsFirst text main f → ⊥

abbrev pub AcceptedOnce : Type 0
AcceptedOnce = (text : List Section) (main : List ℕ) (number other : ℕ) → IsAccepted text main number → IsAccepted text main other → number ≡ other

-- two first faults stand at one token and break one rule
abbrev pub FirstIsOne : Type 0
FirstIsOne = (text : List Section) (main : List ℕ) (f g : Fault) → IsFirst text main f → IsFirst text main g
    → (f.position.number ≡ g.position.number) × (f.rule ≡ g.rule)

abbrev pub HasNoRecursion : Type 0
HasNoRecursion = (program : ProgramView) (unit : ℕ) → IsChecked program → Reaches (graph_of (units_of (text_of program))) unit unit → ⊥

-- no two members and steps of one whole in a checked program have the same name
abbrev pub CheckedHasDistinctNames : Type 0
CheckedHasDistinctNames = (program : ProgramView) → IsChecked program → (unit : Named) → unit_at (units_of (text_of program)) (main_of program) ≡ Some unit
    → HasDistinctNames (composition_of (units_of (text_of program)) unit.declares)

-- each name that a chart of a checked program stores is that of a variable of its unit, or of an action of the chart, as it is declared
abbrev pub CheckedStoresDeclaredNames : Type 0
CheckedStoresDeclaredNames = (program : ProgramView) → IsChecked program → (i : ℕ) (unit : Named) → unit_at (units_of (text_of program)) i ≡ Some unit
    → All (Contains (variable_names (variables_in unit.declares) ++ action_names (chart_in unit.declares))) (stored_of unit.declares)

-- a checked program is small: its arrays have bounds in the range of LINT, it has at most 65536 leaves, and its name at most 128 bytes
pub record IsSmallProgram (units : List Named) (unit : Named) : Type 0 where
  pub bounds : HasBounds (composition_of units unit.declares)
  pub few : count (composition_of units unit.declares) ≤ 65536
  pub short : length unit.name.spelling ≤ 128

abbrev pub CheckedIsSmall : Type 0
CheckedIsSmall = (program : ProgramView) → IsChecked program → (unit : Named) → unit_at (units_of (text_of program)) (main_of program) ≡ Some unit
    → IsSmallProgram (units_of (text_of program)) unit

-- the leaves of a checked program are sound, where the names on the ways to them are words
abbrev pub CheckedHasSoundLeaves : Type 0
CheckedHasSoundLeaves = (program : ProgramView) → IsChecked program → (unit : Named) → unit_at (units_of (text_of program)) (main_of program) ≡ Some unit
    → All (λ l. HasWords l.path) (leaves_of_whole (composition_of (units_of (text_of program)) unit.declares)) → IsSound (leaves_of_program program)

-- one value, of its type
pub record IsOneValue (c : Composition) : Type 0 where
  pub value : Value
  pub is : c ≡ elementary value
  pub valid : IsValue value

-- each variable and each constant of a function in a checked program is one value, and begins with one of its type (2.5.1)
abbrev pub CheckedHasElementaryFunctions : Type 0
CheckedHasElementaryFunctions = (program : ProgramView) → IsChecked program → (i : ℕ) (unit : Named) (f : Function) → unit_at (units_of (text_of program)) i ≡ Some unit
    → unit.declares ≡ names.function f
    → All (λ v. IsOneValue (declared_composition (units_of (text_of program)) (composition_within (units_of (text_of program)) (suc (length (units_of (text_of program))))) v)) (variables_of f.variables)
