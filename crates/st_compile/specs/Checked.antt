-- What the functions of a checked program call, and what they give (2.5.1).
use Rattle.std.specs.Prelude.{◌≡◌, ℕ, List, Some, None}
use Rattle.st_check.specs.Programs.{IsChecked, ProgramView, level_in, order_of, text_of}
use Rattle.st_tree.specs.declared.tree.unit.Function.{Function}
use Rattle.st_types.specs.Names.{Named, unit_at, units_of}
use Rattle.st_types.specs.Names as names
use Rattle.st_leaves.specs.Selected.{selected_by}
use Rattle.st_meaning.specs.CalledBy.{CallBelow}
use Rattle.st_meaning.specs.Meaning.{Values}
use Rattle.st_meaning.specs.Units.{calls_of, root_of, unit_given}
use Rattle.st_meaning.specs.Wholes.{block_of}
use Rattle.st_compile.specs.Ranks.{FunctionsHaveNoInstances}

-- functions call none but those that stand before them in the program's order
abbrev pub CheckedFunctionsCallBelow : Type 0
CheckedFunctionsCallBelow = (program : ProgramView) → IsChecked program → CallBelow (units_of (text_of program)) (level_in (order_of program))

-- what a function gives is what its body gives, in which all calls give what the functions of the text do
abbrev pub CheckedCallsAreThoseOfTheirBodies : Type 0
CheckedCallsAreThoseOfTheirBodies = (program : ProgramView) → IsChecked program → (number : ℕ) (inputs : Values) (left : ℕ)
    → calls_of (units_of (text_of program)) number inputs left
    ≡ unit_given (units_of (text_of program)) (calls_of (units_of (text_of program))) (unit_at (units_of (text_of program)) number) inputs left

-- no variable of a function is an instance of a standard function block
abbrev pub FunctionsHaveNoBlocks : List Named → Type 0
FunctionsHaveNoBlocks units = (number : ℕ) (unit : Named) (f : Function) (name : List ℕ) → unit_at units number ≡ Some unit → unit.declares ≡ names.function f
    → block_of (selected_by (root_of units unit) name) ≡ None

abbrev pub CheckedFunctionsHaveNoInstances : Type 0
CheckedFunctionsHaveNoInstances = (program : ProgramView) → IsChecked program → FunctionsHaveNoInstances (units_of (text_of program))

abbrev pub CheckedFunctionsHaveNoBlocks : Type 0
CheckedFunctionsHaveNoBlocks = (program : ProgramView) → IsChecked program → FunctionsHaveNoBlocks (units_of (text_of program))
