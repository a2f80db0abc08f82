-- What follows where no fault is found.
use Rattle.std.specs.Prelude.{◌≡◌, Bool, false, [], List}
use Rattle.st_values.specs.declared.elem.Elem.{Elem}
use Rattle.st_tree.specs.declared.tree.expression.Expression.{Expression}
use Rattle.st_tree.specs.declared.tree.position.Position.{Position}
use Rattle.st_tree.specs.declared.tree.statement.Statement.{Statement}
use Rattle.st_types.specs.Scopes.{Scope}
use Rattle.st_check_expressions.specs.Known.{Known}
use Rattle.st_check_expressions.specs.Walk.{known}
use Rattle.st_check_statements.specs.Statements.{Around, body_faults, statement_faults}
use Rattle.st_meaning.specs.Terms.{Command, Term}
use Rattle.st_meaning.specs.Typing.{body_of, command_of, typed}
use Rattle.st_meaning.specs.Wholes.{Whole}
use Rattle.st_compile.specs.Commands.{AreCommands, IsCommand}
use Rattle.st_compile.specs.Terms.{IsTerm}
use Rattle.st_compile.specs.Ties.{Ties}

-- Where names stand for the same on both sides, an expression in which no fault is found where a type is due has a term there by the
-- strict cases, and it is the one that typing gives: no default is met.
abbrev pub ExpressionsAreStrict : Type 0
ExpressionsAreStrict = (scope : Scope) (w : Whole) (x : Expression) (at : Position) (e : Elem) → Ties scope w
    → Known.faults_at (known scope x) at e ≡ [] → IsTerm w e x ((typed w x).as_type e)

-- .. and both sides say the same of its own type, which can be known
abbrev pub OwnTypesAreTheSame : Type 0
OwnTypesAreTheSame = (scope : Scope) (w : Whole) (x : Expression) (at : Position) (e : Elem) → Ties scope w
    → Known.faults_at (known scope x) at e ≡ [] → Known.own (known scope x) ≡ (typed w x).own

-- Statements in which no fault is found are commands by the strict cases, those that typing gives: nothing is dropped, no EXIT stands
-- outside a loop, and each call is one of an instance.
abbrev pub StatementsAreStrict : Type 0
StatementsAreStrict = (scope : Scope) (w : Whole) (s : Statement) (a : Around) → Ties scope w → statement_faults scope s a ≡ []
    → IsCommand w a.in_loop s (command_of w s)

abbrev pub BodiesAreStrict : Type 0
BodiesAreStrict = (scope : Scope) (w : Whole) (body : List Statement) → Ties scope w → body_faults scope body ≡ []
    → AreCommands w false body (body_of w body)

-- a term by the strict cases is the one that typing gives, and there is no second one
abbrev pub StrictTermsAreOne : Type 0
StrictTermsAreOne = (w : Whole) (e : Elem) (x : Expression) (t : Term) → IsTerm w e x t → (typed w x).as_type e ≡ t

-- and so is a command
abbrev pub StrictCommandsAreOne : Type 0
StrictCommandsAreOne = (w : Whole) (in_loop : Bool) (s : Statement) (c : Command) → IsCommand w in_loop s c → command_of w s ≡ c
