-- Statements in the scope of a unit, and the code of their parts.
use Rattle.std.specs.Prelude.{ℕ, ◌+◌, Bool, if◌then◌else◌, List, ◌++◌, map, length}
use Rattle.st_values.specs.declared.elem.Elem.{Elem}
use Rattle.st_tree.specs.declared.tree.expression.Expression.{Expression}
use Rattle.st_tree.specs.declared.tree.expression.Variable.{Variable}
use Rattle.st_tree.specs.declared.tree.statement.CaseElement.{CaseElement}
use Rattle.st_tree.specs.declared.tree.statement.CaseStatement.{CaseStatement, out-CaseStatement}
use Rattle.st_tree.specs.declared.tree.statement.ConditionalPart.{ConditionalPart}
use Rattle.st_tree.specs.declared.tree.statement.ForStatement.{ForStatement}
use Rattle.st_tree.specs.declared.tree.statement.IfStatement.{IfStatement, out-IfStatement}
use Rattle.st_tree.specs.declared.tree.statement.RepeatStatement.{RepeatStatement}
use Rattle.st_tree.specs.declared.tree.statement.WhileStatement.{WhileStatement}
use Rattle.st_types.specs.OwnTypes.{or_lint}
use Rattle.st_meaning.specs.Terms.{Branches, Cases, Command, LabelRange, Parts, choice, cases, field_part, repeat_loop, while_loop, whole}
use Rattle.st_meaning.specs.Typing.{alone, assignment, body_of, branch_of, branches_of, case_of, cases_of, condition, for_command, label_range, place_of, typed}
use Rattle.st_meaning.specs.Wholes.{Whole, type_of}
use Rattle.st_code.specs.Code.{Line, at, case_test, commands_code, plain, term_code}
use Rattle.st_code.specs.declared.instr.Instr.{Instr}
use Rattle.st_code.specs.declared.instr.Instr.TheVariants.{Drop, GoBack, GoOn, SkipIf, SkipUnless}

-- ---- what statements are

abbrev pub assignment_in : Whole → Variable → Expression → Command
assignment_in w v x = assignment v.name.position.line (place_of w v) (type_of w.variables (place_of w v)) (typed w x)

abbrev pub branches_in : Whole → List ConditionalPart → Branches
branches_in w ps = branches_of (map (branch_of w) ps)

abbrev pub if_in : Whole → IfStatement → Command
if_in w s = choice (out-IfStatement s).position.line (branches_in w (out-IfStatement s).parts) (body_of w (out-IfStatement s).otherwise)

-- the type of the selector
abbrev pub selector_type : Whole → CaseStatement → Elem
selector_type w s = or_lint (typed w (out-CaseStatement s).selector).own

abbrev pub cases_in : Whole → Elem → List CaseElement → Cases
cases_in w e cs = cases_of e (map (case_of w) cs)

abbrev pub case_in : Whole → CaseStatement → Command
case_in w s =
    let x = out-CaseStatement s in cases x.position.line (alone (typed w x.selector)) (cases_in w (selector_type w s) x.cases) (body_of w x.otherwise)

abbrev pub counted : ForStatement → Parts
counted s = field_part s.variable.spelling whole

abbrev pub for_in : Whole → ForStatement → Command
for_in w s = for_command w s.position.line (counted s) (type_of w.variables (counted s)) s.first s.last s.step (body_of w s.statements)

abbrev pub while_in : Whole → WhileStatement → Command
while_in w s = while_loop s.position.line (condition w s.condition) (body_of w s.statements)

abbrev pub repeat_in : Whole → RepeatStatement → Command
repeat_in w s = repeat_loop s.position.line (body_of w s.statements) (condition w s.condition)

-- ---- the code of parts of them. `out` and `end` count from the end of the part

-- a test, a body, and a jump past so many instructions behind them
abbrev pub front_code : List Line → List Line → ℕ → List Line
front_code test body rest = test ++ (plain (SkipUnless (length body + 1)) ++ (body ++ plain (GoOn rest)))

abbrev pub part_code : Whole → ConditionalPart → (rest out end : ℕ) → List Line
part_code w p rest out end = front_code (term_code w.variables (condition w p.condition)) (commands_code w.variables (body_of w p.statements) (1 + out) (1 + end)) rest

abbrev pub element_labels : Elem → CaseElement → List LabelRange
element_labels e x = map (label_range e) x.labels

abbrev pub case_code : Whole → Elem → CaseElement → (rest out end : ℕ) → List Line
case_code w e x rest out end = front_code (case_test e (element_labels e x)) (plain Drop ++ commands_code w.variables (body_of w x.statements) (1 + out) (1 + end)) rest

-- a jump where a condition is TRUE, or where it is FALSE
abbrev pub skip_instr : Bool → ℕ → Instr
skip_instr until distance = if until then SkipIf distance else SkipUnless distance

-- a test, and a body with a jump back to the test
abbrev pub turns_code : ℕ → Bool → List Line → List Line → List Line
turns_code line until test body =
    test ++ (plain (skip_instr until (length body + 1)) ++ (body ++ at line (GoBack (length test + 1 + length body))))
