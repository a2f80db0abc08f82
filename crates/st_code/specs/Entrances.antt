-- Which instances code enters: those of the function blocks of the text that its body invokes.
use Rattle.std.specs.Prelude.{◌≡◌, ℕ, Bool, IsTrue, List, Some}
use Rattle.std.specs.List.{All}
use Rattle.st_tree.specs.declared.tree.statement.Statement.{Statement}
use Rattle.st_types.specs.Compositions.{Composition}
use Rattle.st_meaning.specs.Offsets.{offset_of}
use Rattle.st_meaning.specs.Terms.{Body}
use Rattle.st_meaning.specs.Typing.{body_in}
use Rattle.st_meaning.specs.Wholes.{Invoked, Whole}
use Rattle.st_code.specs.Code.{code_of}
use Rattle.st_code.specs.Invocations.{Asked, BodyInvokes}
use Rattle.st_code.specs.declared.instr.Instr.{Instr}
use Rattle.st_code.specs.declared.instr.Instr.TheVariants.{Enter}

-- the test is of a unit's number and the first leaf of an instance of it
abbrev pub InstanceTest : Type 0
InstanceTest = ℕ → ℕ → Bool

-- if this is an `Enter`, its unit and leaf pass the test
abbrev pub EntersWhere : InstanceTest → Instr → Type 0
EntersWhere test (Enter leaf unit) = IsTrue (test unit leaf)
EntersWhere test i = Unit {0}

-- the unit and the first leaf of the invoked instance pass the test
abbrev pub IsInvokedWhere : Composition → InstanceTest → Asked
IsInvokedWhere root test name unit body = IsTrue (test unit (offset_of root name))

abbrev pub InvokeWhere : Composition → InstanceTest → Body → Type 0
InvokeWhere root test body = BodyInvokes (IsInvokedWhere root test) body

-- the code of a body enters no instances but those that the body invokes
abbrev pub CodeEntersWhatIsInvoked : Type 0
CodeEntersWhatIsInvoked = (root : Composition) (test : InstanceTest) (body : Body) → InvokeWhere root test body
    → All (λ l. EntersWhere test l.instr) (code_of root body)

-- all instances that names of the whole are pass the test
abbrev pub HasEntrances : Whole → InstanceTest → Type 0
HasEntrances w test = (name : List ℕ) (unit : Invoked) → w.invoked name ≡ Some unit → IsTrue (test unit.number (offset_of w.variables name))

-- then what typing makes of the body of a unit invokes no others
abbrev pub TypingEntersInstances : Type 0
TypingEntersInstances = (w : Whole) (test : InstanceTest) → HasEntrances w test → (number : ℕ) (body : List Statement)
    → InvokeWhere w.variables test (body_in w number body)
