-- Which functions of the text statements call (2.5.1), and that nothing but what those give matters.
use Rattle.std.specs.Prelude.{◌≡◌, ℕ, ◌≤◌, nat_lt, Bool, IsTrue, List, length, Some}
use Rattle.st_tree.specs.declared.tree.unit.Function.{Function}
use Rattle.st_types.specs.Compositions.{Composition}
use Rattle.st_types.specs.Names.{Named, unit_at}
use Rattle.st_types.specs.Names as names
use Rattle.st_meaning.specs.Meaning.{Calls, Values}
use Rattle.st_meaning.specs.Statements.{Setting, body_meaning, commands_meaning}
use Rattle.st_meaning.specs.Terms.{Term, constant, stored, of_step, unary, binary, selection, call, Terms, no_terms, more_terms, Parts, whole, field_part, element_part, Command, nothing, assign, choice, cases, count_loop, while_loop, repeat_loop, invoke, enter, exit, finish, Moves, no_moves, more_moves, Commands, no_commands, more_commands, Branches, no_branches, more_branches, Cases, no_cases, more_cases, Tests, no_tests, more_tests, Actions, no_actions, more_actions, Body, plain_body, chart_body}
use Rattle.st_meaning.specs.Typing.{body_of}
use Rattle.st_meaning.specs.Units.{calls_of, statements_of, unit_given, unit_whole}

-- the test is of the number of a function's unit
abbrev pub CalledTest : Type 0
CalledTest = ℕ → Bool

-- ---- all functions that are called pass the test

abbrev mutual
  pub TermCalls : CalledTest → Term → Type 0
  TermCalls test (constant v) = Unit {0}
  TermCalls test (stored ps) = PartsCall test ps
  TermCalls test (of_step is_time name) = Unit {0}
  TermCalls test (unary o a) = TermCalls test a
  TermCalls test (binary o line a b) = TermCalls test a × TermCalls test b
  TermCalls test (selection g a b) = TermCalls test g × TermCalls test a × TermCalls test b
  TermCalls test (call line unit result ts sources) = IsTrue (test unit) × TermsCall test ts

  pub TermsCall : CalledTest → Terms → Type 0
  TermsCall test no_terms = Unit {0}
  TermsCall test (more_terms t ts) = TermCalls test t × TermsCall test ts

  pub PartsCall : CalledTest → Parts → Type 0
  PartsCall test whole = Unit {0}
  PartsCall test (field_part name ps) = PartsCall test ps
  PartsCall test (element_part line ts ps) = TermsCall test ts × PartsCall test ps

abbrev pub MovesCall : CalledTest → Moves → Type 0
MovesCall test no_moves = Unit {0}
MovesCall test (more_moves ps t more) = PartsCall test ps × TermCalls test t × MovesCall test more

abbrev pub TestsCall : CalledTest → Tests → Type 0
TestsCall test no_tests = Unit {0}
TestsCall test (more_tests line t more) = TermCalls test t × TestsCall test more

abbrev mutual
  pub CommandCalls : CalledTest → Command → Type 0
  CommandCalls test (nothing line) = Unit {0}
  CommandCalls test (assign line ps t) = PartsCall test ps × TermCalls test t
  CommandCalls test (choice line bs others) = BranchesCall test bs × CommandsCall test others
  CommandCalls test (cases line t cs others) = TermCalls test t × CasesCall test cs × CommandsCall test others
  CommandCalls test (count_loop line ps a b c cs) = PartsCall test ps × TermCalls test a × TermCalls test b × TermCalls test c × CommandsCall test cs
  CommandCalls test (while_loop line t cs) = TermCalls test t × CommandsCall test cs
  CommandCalls test (repeat_loop line cs t) = CommandsCall test cs × TermCalls test t
  CommandCalls test (invoke line name b inputs outputs) = MovesCall test inputs × MovesCall test outputs
  CommandCalls test (enter line name unit body inputs outputs) = MovesCall test inputs × BodyCalls test body × MovesCall test outputs
  CommandCalls test (exit line) = Unit {0}
  CommandCalls test (finish line) = Unit {0}

  pub CommandsCall : CalledTest → Commands → Type 0
  CommandsCall test no_commands = Unit {0}
  CommandsCall test (more_commands c cs) = CommandCalls test c × CommandsCall test cs

  pub BranchesCall : CalledTest → Branches → Type 0
  BranchesCall test no_branches = Unit {0}
  BranchesCall test (more_branches t cs bs) = TermCalls test t × CommandsCall test cs × BranchesCall test bs

  pub CasesCall : CalledTest → Cases → Type 0
  CasesCall test no_cases = Unit {0}
  CasesCall test (more_cases labels cs more) = CommandsCall test cs × CasesCall test more

  pub ActionsCall : CalledTest → Actions → Type 0
  ActionsCall test no_actions = Unit {0}
  ActionsCall test (more_actions cs more) = CommandsCall test cs × ActionsCall test more

  pub BodyCalls : CalledTest → Body → Type 0
  BodyCalls test (plain_body cs) = CommandsCall test cs
  BodyCalls test (chart_body unit sketch tests actions) = TestsCall test tests × ActionsCall test actions

-- ---- what follows

-- the functions that pass the test give the same
abbrev pub GiveAlike : CalledTest → Calls → Calls → Type 0
GiveAlike test calls others = (unit : ℕ) → IsTrue (test unit) → (inputs : Values) (left : ℕ) → calls unit inputs left ≡ others unit inputs left

-- what statements mean depends on nothing but what the functions give that they call
abbrev pub CalledFunctionsMatterAlone : Type 0
CalledFunctionsMatterAlone = (test : CalledTest) (calls others : Calls) → GiveAlike test calls others → (root : Composition) (setting : Setting) (cs : Commands)
    → CommandsCall test cs → (values : Values) (left : ℕ) → commands_meaning calls root setting cs values left ≡ commands_meaning others root setting cs values left

-- and so of bodies
abbrev pub BodiesDependOnTheirCalls : Type 0
BodiesDependOnTheirCalls = (test : CalledTest) (calls others : Calls) → GiveAlike test calls others → (root : Composition) (setting : Setting) (body : Body)
    → BodyCalls test body → (values : Values) (left : ℕ) → body_meaning calls root setting body values left ≡ body_meaning others root setting body values left

-- each function calls none but those of a lower rank
abbrev pub CallBelow : List Named → (ℕ → ℕ) → Type 0
CallBelow units rank = (number : ℕ) (unit : Named) (f : Function) → unit_at units number ≡ Some unit → unit.declares ≡ names.function f
    → CommandsCall (λ n. nat_lt (rank n) (rank number)) (body_of (unit_whole units unit) (statements_of unit.declares))

-- Then no function calls itself, directly or through others, and the functions of the text give what their bodies give that call them.
abbrev pub CallsAreThoseOfTheirBodies : Type 0
CallsAreThoseOfTheirBodies = (units : List Named) (rank : ℕ → ℕ) → CallBelow units rank → (number : ℕ) → rank number ≤ length units → (inputs : Values) (left : ℕ)
    → calls_of units number inputs left ≡ unit_given units (calls_of units) (unit_at units number) inputs left
