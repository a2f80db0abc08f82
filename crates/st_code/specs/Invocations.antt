-- What commands invoke: the bodies of function blocks of the text.
use Rattle.std.specs.Prelude.{◌≡◌, ℕ, IsTrue, List, Some}
use Rattle.st_values.specs.Values.{in_range}
use Rattle.st_values.specs.declared.elem.Elem.TheVariants as elems
use Rattle.st_tree.specs.declared.tree.statement.Statement.{Statement}
use Rattle.st_types.specs.Compositions.{Composition}
use Rattle.st_leaves.specs.Places.{count}
use Rattle.st_leaves.specs.Selected.{selected_by}
use Rattle.st_meaning.specs.Meaning.{Calls, Values}
use Rattle.st_meaning.specs.Sound.{AreValuesOf}
use Rattle.st_meaning.specs.Statements.{Setting, body_meaning, ended}
use Rattle.st_meaning.specs.Terms.{Command, nothing, assign, choice, cases, count_loop, while_loop, repeat_loop, invoke, enter, exit, finish, Commands, no_commands, more_commands, Branches, no_branches, more_branches, Cases, no_cases, more_cases, Actions, no_actions, more_actions, Body, plain_body, chart_body}
use Rattle.st_meaning.specs.Typing.{body_in}
use Rattle.st_meaning.specs.Wholes.{Invoked, Whole}
use Rattle.st_code.specs.Machine.{UnitBody}

-- This is what a body does, over these variables: it takes as many leaves as they have, and at any moment that a TIME can hold, from any
-- values of them, it ends as the body means.
pub record IsBodyOf (calls : Calls) (variables : Composition) (body : Body) (made : UnitBody) : Type 0 where
  pub size : made.size ≡ count variables
  pub same : (setting : Setting) (values : Values) (left : ℕ) → IsTrue (in_range elems.Time setting.now) → AreValuesOf variables values
      → ended (made.run setting values left) ≡ body_meaning calls variables setting body values left

-- what is asked of an invocation: the name of the instance, the number of its unit, and what the body of that unit is
abbrev pub Asked : Type 1
Asked = List ℕ → ℕ → Body → Type 0

-- it is so of each invocation in the commands. Of what the invoked bodies invoke it is not asked here.
abbrev mutual
  pub CommandInvokes : Asked → Command → Type 0
  CommandInvokes asked (nothing line) = Unit {0}
  CommandInvokes asked (assign line ps t) = Unit {0}
  CommandInvokes asked (choice line bs others) = BranchesInvoke asked bs × Invoke asked others
  CommandInvokes asked (cases line t cs others) = CasesInvoke asked cs × Invoke asked others
  CommandInvokes asked (count_loop line ps a b c cs) = Invoke asked cs
  CommandInvokes asked (while_loop line t cs) = Invoke asked cs
  CommandInvokes asked (repeat_loop line cs t) = Invoke asked cs
  CommandInvokes asked (invoke line name b inputs outputs) = Unit {0}
  CommandInvokes asked (enter line name unit body inputs outputs) = asked name unit body
  CommandInvokes asked (exit line) = Unit {0}
  CommandInvokes asked (finish line) = Unit {0}

  pub Invoke : Asked → Commands → Type 0
  Invoke asked no_commands = Unit {0}
  Invoke asked (more_commands c cs) = CommandInvokes asked c × Invoke asked cs

  pub BranchesInvoke : Asked → Branches → Type 0
  BranchesInvoke asked no_branches = Unit {0}
  BranchesInvoke asked (more_branches t cs bs) = Invoke asked cs × BranchesInvoke asked bs

  pub CasesInvoke : Asked → Cases → Type 0
  CasesInvoke asked no_cases = Unit {0}
  CasesInvoke asked (more_cases labels cs more) = Invoke asked cs × CasesInvoke asked more

abbrev pub ActionsInvoke : Asked → Actions → Type 0
ActionsInvoke asked no_actions = Unit {0}
ActionsInvoke asked (more_actions cs more) = Invoke asked cs × ActionsInvoke asked more

abbrev pub BodyInvokes : Asked → Body → Type 0
BodyInvokes asked (plain_body cs) = Invoke asked cs
BodyInvokes asked (chart_body unit sketch tests actions) = ActionsInvoke asked actions

-- ---- what the invoked bodies do

-- the body of the unit does what the invocation means
abbrev pub IsInvokedAs : Calls → Composition → (ℕ → UnitBody) → Asked
IsInvokedAs calls root bodies name unit body = IsBodyOf calls (selected_by root name) body (bodies unit)

abbrev pub InvokesAs : Calls → Composition → (ℕ → UnitBody) → Body → Type 0
InvokesAs calls root bodies body = BodyInvokes (IsInvokedAs calls root bodies) body

-- among these are the bodies of all units whose instances names of the whole are
abbrev pub HasBodies : Calls → Whole → (ℕ → UnitBody) → Type 0
HasBodies calls w bodies =
    (name : List ℕ) (unit : Invoked) → w.invoked name ≡ Some unit → IsBodyOf calls (selected_by w.variables name) unit.body (bodies unit.number)

-- then what typing makes of the body of a unit invokes no others, whichever number it has
abbrev pub TypingInvokesBodies : Type 0
TypingInvokesBodies = (calls : Calls) (w : Whole) (bodies : ℕ → UnitBody) → HasBodies calls w bodies → (number : ℕ) (body : List Statement)
    → InvokesAs calls w.variables bodies (body_in w number body)
