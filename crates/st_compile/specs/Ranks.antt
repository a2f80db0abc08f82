-- Functions call those of a lower rank where what each unit refers to has one.
use Rattle.std.specs.Prelude.{◌≡◌, ℕ, ◌<◌, List, None, Some}
use Rattle.std.specs.List.{Contains}
use Rattle.st_tree.specs.declared.tree.unit.Function.{Function}
use Rattle.st_types.specs.Names.{Named, unit_at}
use Rattle.st_types.specs.Names as names
use Rattle.st_references.specs.References.{references}
use Rattle.st_meaning.specs.CalledBy.{CallBelow}
use Rattle.st_meaning.specs.Units.{unit_whole}

-- what a unit contains and calls has a lower rank than the unit
abbrev pub ReferBelow : List Named → (ℕ → ℕ) → Type 0
ReferBelow units rank = (number other : ℕ) (unit : Named) → unit_at units number ≡ Some unit → Contains (references units unit.declares) other → rank other < rank number

-- no variable of a function is an instance of a function block of the text
abbrev pub FunctionsHaveNoInstances : List Named → Type 0
FunctionsHaveNoInstances units = (number : ℕ) (unit : Named) (f : Function) (name : List ℕ) → unit_at units number ≡ Some unit → unit.declares ≡ names.function f
    → (unit_whole units unit).invoked name ≡ None

abbrev pub FunctionsCallBelow : Type 0
FunctionsCallBelow = (units : List Named) (rank : ℕ → ℕ) → ReferBelow units rank → FunctionsHaveNoInstances units → CallBelow units rank
