-- Which functions code calls: those that its body calls, with as many numbers as they have inputs.
use Rattle.std.specs.Prelude.{◌≡◌, ℕ, Bool, IsTrue, length, Option, Some, None}
use Rattle.std.specs.List.{All}
use Rattle.st_types.specs.Compositions.{Composition}
use Rattle.st_meaning.specs.Sound.{IsSoundBody}
use Rattle.st_meaning.specs.Terms.{Body}
use Rattle.st_meaning.specs.Wholes.{Called, Functions}
use Rattle.st_code.specs.Code.{code_of}
use Rattle.st_code.specs.declared.instr.Instr.{Instr}
use Rattle.st_code.specs.declared.instr.Instr.TheVariants.{Call}

-- the function that an instruction calls: the number of its unit, and how many numbers it takes
abbrev pub call_of : Instr → Option (ℕ × ℕ)
call_of (Call unit inputs below) = Some (unit, inputs)
call_of i = None

-- the test is of a unit's number and of how many inputs there are
abbrev pub FunctionTest : Type 0
FunctionTest = ℕ → ℕ → Bool

-- if this is a `Call`, its unit and inputs pass the test
abbrev pub CallsWhere : FunctionTest → Instr → Type 0
CallsWhere test (Call unit inputs below) = IsTrue (test unit inputs)
CallsWhere test i = Unit {0}

-- each function with its inputs passes the test
abbrev pub FunctionsPass : Functions → FunctionTest → Type 0
FunctionsPass functions test = (unit : ℕ) (function : Called) → functions unit ≡ Some function → IsTrue (test unit (length function.inputs))

-- the code of a sound body calls nothing but functions, each with as many numbers as it has inputs
abbrev pub CodeCallsFunctions : Type 0
CodeCallsFunctions = (functions : Functions) (root : Composition) (test : FunctionTest) (body : Body) → FunctionsPass functions test
    → IsSoundBody functions root body → All (λ l. CallsWhere test l.instr) (code_of root body)
