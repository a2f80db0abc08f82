-- The names that are called in a tree, in the order of the text: those before `(`.
use Rattle.std.specs.Prelude.{ℕ, List, [], ◌∷◌, ◌++◌, Option, Some, None}
use Rattle.std.specs.List.{flat_map}
use Rattle.st_tree.specs.declared.tree.expression.Argument.TheOpen.{Argument-F, Call-F, Expression-F, Operation-F, Part-F, Variable-F}
use Rattle.st_tree.specs.declared.tree.expression.Argument.{Argument, fold-Argument}
use Rattle.st_tree.specs.declared.tree.expression.Call.{Call, fold-Call}
use Rattle.st_tree.specs.declared.tree.expression.Expression.{Expression, fold-Expression}
use Rattle.st_tree.specs.declared.tree.expression.Operation.{Operation, fold-Operation}
use Rattle.st_tree.specs.declared.tree.expression.Part.{Part, fold-Part}
use Rattle.st_tree.specs.declared.tree.expression.Variable.{Variable, fold-Variable}
use Rattle.st_tree.specs.declared.tree.statement.CaseElement.{CaseElement, fold-CaseElement}
use Rattle.st_tree.specs.declared.tree.statement.CaseStatement.{CaseStatement, fold-CaseStatement}
use Rattle.st_tree.specs.declared.tree.statement.ConditionalPart.{ConditionalPart, fold-ConditionalPart}
use Rattle.st_tree.specs.declared.tree.statement.ForStatement.{ForStatement, fold-ForStatement}
use Rattle.st_tree.specs.declared.tree.statement.IfStatement.{IfStatement, fold-IfStatement}
use Rattle.st_tree.specs.declared.tree.statement.RepeatStatement.{RepeatStatement, fold-RepeatStatement}
use Rattle.st_tree.specs.declared.tree.statement.Statement.{Statement, fold-Statement}
use Rattle.st_tree.specs.declared.tree.statement.Statement.TheOpen.{CaseElement-F, CaseStatement-F, ConditionalPart-F, ForStatement-F, IfStatement-F, RepeatStatement-F, Statement-F, WhileStatement-F}
use Rattle.st_tree.specs.declared.tree.statement.WhileStatement.{WhileStatement, fold-WhileStatement}
use Rattle.st_tree.specs.declared.tree.unit.Body.{Body}
use Rattle.st_tree.specs.declared.tree.unit.Body.TheVariants as bodies
use Rattle.st_tree.specs.declared.tree.unit.ChartElement.{ChartElement}
use Rattle.st_tree.specs.declared.tree.unit.ChartElement.TheVariants as chart_elements
use Rattle.st_types.specs.Names.{Declares}
use Rattle.st_types.specs.Names as names

-- names, as they are spelled
abbrev pub Calls : Type 0
Calls = List (List ℕ)

abbrev pub all : List Calls → Calls
all xs = flat_map (λ x. x) xs

-- ---- expressions: the children of a node stand for the names that are called in them

abbrev pub argument_step : Argument-F Calls Calls Calls Calls Calls Calls → Calls
argument_step (Argument-F.Positional x) = x
argument_step (Argument-F.Input name x) = x
argument_step (Argument-F.Output name v) = v

abbrev pub expression_step : Expression-F Calls Calls Calls Calls Calls Calls → Calls
expression_step (Expression-F.Constant c) = []
expression_step (Expression-F.Variable v) = v
expression_step (Expression-F.Call c) = c
expression_step (Expression-F.Parenthesized position x) = x
expression_step (Expression-F.Negate position x) = x
expression_step (Expression-F.Not position x) = x
expression_step (Expression-F.Chain position x ls) = x ++ all ls

abbrev pub part_step : Part-F Calls Calls Calls Calls Calls Calls → Calls
part_step (Part-F.Field name) = []
part_step (Part-F.Subscripts position xs) = all xs

abbrev pub call_step : Call-F Calls Calls Calls Calls Calls Calls → Calls
call_step c = c.name.spelling ∷ all c.arguments

abbrev pub operation_step : Operation-F Calls Calls Calls Calls Calls Calls → Calls
operation_step o = o.operand

abbrev pub variable_step : Variable-F Calls Calls Calls Calls Calls Calls → Calls
variable_step v = all v.parts

abbrev pub expression_calls : Expression → Calls
expression_calls x = fold-Expression Calls Calls Calls Calls Calls Calls argument_step expression_step part_step call_step operation_step variable_step x

abbrev pub argument_calls : Argument → Calls
argument_calls x = fold-Argument Calls Calls Calls Calls Calls Calls argument_step expression_step part_step call_step operation_step variable_step x

abbrev pub part_calls : Part → Calls
part_calls x = fold-Part Calls Calls Calls Calls Calls Calls argument_step expression_step part_step call_step operation_step variable_step x

abbrev pub call_calls : Call → Calls
call_calls x = fold-Call Calls Calls Calls Calls Calls Calls argument_step expression_step part_step call_step operation_step variable_step x

abbrev pub operation_calls : Operation → Calls
operation_calls x = fold-Operation Calls Calls Calls Calls Calls Calls argument_step expression_step part_step call_step operation_step variable_step x

abbrev pub variable_calls : Variable → Calls
variable_calls x = fold-Variable Calls Calls Calls Calls Calls Calls argument_step expression_step part_step call_step operation_step variable_step x

-- ---- statements

abbrev pub optional_calls : Option Expression → Calls
optional_calls None = []
optional_calls (Some x) = expression_calls x

abbrev pub statement_step : Statement-F Calls Calls Calls Calls Calls Calls Calls Calls → Calls
statement_step (Statement-F.Empty position) = []
statement_step (Statement-F.Assignment v x) = variable_calls v ++ expression_calls x
statement_step (Statement-F.Call c) = call_calls c
statement_step (Statement-F.Return position) = []
statement_step (Statement-F.Exit position) = []
statement_step (Statement-F.If s) = s
statement_step (Statement-F.Case s) = s
statement_step (Statement-F.For s) = s
statement_step (Statement-F.While s) = s
statement_step (Statement-F.Repeat s) = s

abbrev pub element_step : CaseElement-F Calls Calls Calls Calls Calls Calls Calls Calls → Calls
element_step c = all c.statements

abbrev pub case_step : CaseStatement-F Calls Calls Calls Calls Calls Calls Calls Calls → Calls
case_step s = expression_calls s.selector ++ all s.cases ++ all s.otherwise

abbrev pub conditional_step : ConditionalPart-F Calls Calls Calls Calls Calls Calls Calls Calls → Calls
conditional_step c = expression_calls c.condition ++ all c.statements

abbrev pub for_step : ForStatement-F Calls Calls Calls Calls Calls Calls Calls Calls → Calls
for_step s = expression_calls s.first ++ expression_calls s.last ++ optional_calls s.step ++ all s.statements

abbrev pub if_step : IfStatement-F Calls Calls Calls Calls Calls Calls Calls Calls → Calls
if_step s = all s.parts ++ all s.otherwise

abbrev pub repeat_step : RepeatStatement-F Calls Calls Calls Calls Calls Calls Calls Calls → Calls
repeat_step s = all s.statements ++ expression_calls s.condition

abbrev pub while_step : WhileStatement-F Calls Calls Calls Calls Calls Calls Calls Calls → Calls
while_step s = expression_calls s.condition ++ all s.statements

abbrev pub statement_calls : Statement → Calls
statement_calls s = fold-Statement Calls Calls Calls Calls Calls Calls Calls Calls statement_step element_step case_step conditional_step for_step if_step repeat_step while_step s

abbrev pub case_element_calls : CaseElement → Calls
case_element_calls s = fold-CaseElement Calls Calls Calls Calls Calls Calls Calls Calls statement_step element_step case_step conditional_step for_step if_step repeat_step while_step s

abbrev pub case_calls : CaseStatement → Calls
case_calls s = fold-CaseStatement Calls Calls Calls Calls Calls Calls Calls Calls statement_step element_step case_step conditional_step for_step if_step repeat_step while_step s

abbrev pub conditional_calls : ConditionalPart → Calls
conditional_calls s = fold-ConditionalPart Calls Calls Calls Calls Calls Calls Calls Calls statement_step element_step case_step conditional_step for_step if_step repeat_step while_step s

abbrev pub for_calls : ForStatement → Calls
for_calls s = fold-ForStatement Calls Calls Calls Calls Calls Calls Calls Calls statement_step element_step case_step conditional_step for_step if_step repeat_step while_step s

abbrev pub if_calls : IfStatement → Calls
if_calls s = fold-IfStatement Calls Calls Calls Calls Calls Calls Calls Calls statement_step element_step case_step conditional_step for_step if_step repeat_step while_step s

abbrev pub repeat_calls : RepeatStatement → Calls
repeat_calls s = fold-RepeatStatement Calls Calls Calls Calls Calls Calls Calls Calls statement_step element_step case_step conditional_step for_step if_step repeat_step while_step s

abbrev pub while_calls : WhileStatement → Calls
while_calls s = fold-WhileStatement Calls Calls Calls Calls Calls Calls Calls Calls statement_step element_step case_step conditional_step for_step if_step repeat_step while_step s

-- ---- units

abbrev pub element_calls : ChartElement → Calls
element_calls (chart_elements.Step s) = []
element_calls (chart_elements.Transition t) = expression_calls t.condition
element_calls (chart_elements.Action a) = flat_map statement_calls a.statements

abbrev pub body_calls : Body → Calls
body_calls (bodies.Statements statements) = flat_map statement_calls statements
body_calls (bodies.Chart elements) = flat_map element_calls elements

-- the names that are called in a unit
abbrev pub unit_calls : Declares → Calls
unit_calls (names.type d) = []
unit_calls (names.function f) = flat_map statement_calls f.statements
unit_calls (names.block b) = body_calls b.body
unit_calls (names.program p) = body_calls p.body
