-- Typings of units and programs without faults.
use Rattle.std.specs.Prelude.{◌≡◌, ℕ, Bool, true, false, List, Some}
use Rattle.st_tree.specs.declared.tree.unit.Unit.{Unit as Section}
use Rattle.st_types.specs.Names.{Declares, Named, unit_at, units_of}
use Rattle.st_types.specs.Names as names
use Rattle.st_types.specs.Scopes.{scope_of}
use Rattle.st_check.specs.Programs.{IsChecked, IsOrdered, ProgramView, text_of}
use Rattle.st_meaning.specs.Terms.{Body}
use Rattle.st_meaning.specs.Units.{body_of_unit, unit_whole}
use Rattle.st_compile.specs.Bodies.{IsTyping}
use Rattle.st_compile.specs.Ties.{Ties}

-- what has statements: all but types
abbrev pub has_body : Declares → Bool
has_body (names.type t) = false
has_body _ = true

-- In a text without faults, in whose units none contains or calls itself, the names of each unit stand on both sides for the same.
abbrev pub NamesAreTied : Type 0
NamesAreTied = (text : List Section) (order : List ℕ) → IsOrdered text order → (i : ℕ) (u : Named)
    → unit_at (units_of text) i ≡ Some u → has_body u.declares ≡ true
    → Ties (scope_of (units_of text) u.declares) (unit_whole (units_of text) u)

-- A unit has one typing at most, the body that the program means.
abbrev pub TypingsAreOne : Type 0
TypingsAreOne = (units : List Named) (number : ℕ) (unit : Named) (body : Body) → IsTyping units number unit body
    → body ≡ body_of_unit units number unit

-- In such a text each unit has it: the body is one by the strict cases, and no default of typing is met.
abbrev pub UnitsAreTyped : Type 0
UnitsAreTyped = (text : List Section) (order : List ℕ) → IsOrdered text order → (i : ℕ) (u : Named)
    → unit_at (units_of text) i ≡ Some u
    → IsTyping (units_of text) i u (body_of_unit (units_of text) i u)

-- each unit of a program has a typing, which is what the program means by it
abbrev pub IsTyped : ProgramView → Type 0
IsTyped program = (i : ℕ) (u : Named) → unit_at (units_of (text_of program)) i ≡ Some u
    → IsTyping (units_of (text_of program)) i u (body_of_unit (units_of (text_of program)) i u)

abbrev pub CheckedProgramsAreTyped : Type 0
CheckedProgramsAreTyped = (program : ProgramView) → IsChecked program → IsTyped program
