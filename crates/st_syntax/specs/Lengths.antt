-- How many tokens of a text a tree stands for at least: what a list has more of makes the text longer.
use Rattle.std.specs.Prelude.{ℕ, ◌+◌, ◌*◌, ◌≤◌, ◌^◌, List, [], ◌∷◌, length, map, Option, Some, None}
use Rattle.st_tree.specs.declared.tree.declaration.Declaration.{Declaration}
use Rattle.st_tree.specs.declared.tree.declaration.VarBlock.{VarBlock}
use Rattle.st_tree.specs.declared.tree.expression.Argument.{Argument, fold-Argument}
use Rattle.st_tree.specs.declared.tree.expression.Argument.TheOpen.{Argument-F, Expression-F, Part-F}
use Rattle.st_tree.specs.declared.tree.expression.Call.{Call, fold-Call}
use Rattle.st_tree.specs.declared.tree.expression.Expression.{Expression, fold-Expression}
use Rattle.st_tree.specs.declared.tree.expression.Operation.{Operation, fold-Operation}
use Rattle.st_tree.specs.declared.tree.expression.Part.{Part, fold-Part}
use Rattle.st_tree.specs.declared.tree.expression.Variable.{Variable, fold-Variable}
use Rattle.st_tree.specs.declared.tree.statement.CaseElement.{CaseElement, fold-CaseElement}
use Rattle.st_tree.specs.declared.tree.statement.CaseStatement.{CaseStatement, fold-CaseStatement}
use Rattle.st_tree.specs.declared.tree.statement.ConditionalPart.{ConditionalPart, fold-ConditionalPart}
use Rattle.st_tree.specs.declared.tree.statement.ForStatement.{ForStatement, fold-ForStatement}
use Rattle.st_tree.specs.declared.tree.statement.IfStatement.{IfStatement, fold-IfStatement}
use Rattle.st_tree.specs.declared.tree.statement.RepeatStatement.{RepeatStatement, fold-RepeatStatement}
use Rattle.st_tree.specs.declared.tree.statement.Statement.{Statement, fold-Statement}
use Rattle.st_tree.specs.declared.tree.statement.Statement.TheOpen.{Statement-F}
use Rattle.st_tree.specs.declared.tree.statement.WhileStatement.{WhileStatement, fold-WhileStatement}
use Rattle.st_tree.specs.declared.tree.unit.Body.{Body}
use Rattle.st_tree.specs.declared.tree.unit.Body.TheVariants as bodies
use Rattle.st_tree.specs.declared.tree.unit.ChartElement.{ChartElement}
use Rattle.st_tree.specs.declared.tree.unit.ChartElement.TheVariants as chart_elements
use Rattle.st_tree.specs.declared.tree.unit.Unit.{Unit as Section}
use Rattle.st_tree.specs.declared.tree.unit.Unit.TheVariants as sections

-- the sum
abbrev pub total : List ℕ → ℕ
total [] = 0
total (n ∷ ns) = n + total ns

-- ---- expressions

-- with the parenthesis or the comma before it
abbrev pub argument_tokens : Argument-F ℕ ℕ ℕ ℕ ℕ ℕ → ℕ
argument_tokens (Argument-F.Positional x) = 1 + x
argument_tokens (Argument-F.Input n x) = 1 + x
argument_tokens (Argument-F.Output n v) = 1 + v

abbrev pub expression_tokens : Expression-F ℕ ℕ ℕ ℕ ℕ ℕ → ℕ
expression_tokens (Expression-F.Constant c) = 1
expression_tokens (Expression-F.Variable v) = v
expression_tokens (Expression-F.Call c) = c
expression_tokens (Expression-F.Parenthesized p x) = x
expression_tokens (Expression-F.Negate p x) = x
expression_tokens (Expression-F.Not p x) = x
expression_tokens (Expression-F.Chain p x os) = x + total os

abbrev pub part_tokens : Part-F ℕ ℕ ℕ ℕ ℕ ℕ → ℕ
part_tokens (Part-F.Field n) = 1
part_tokens (Part-F.Subscripts p xs) = total xs

abbrev pub argument_length : Argument → ℕ
argument_length x = fold-Argument ℕ ℕ ℕ ℕ ℕ ℕ argument_tokens expression_tokens part_tokens (λ c. total c.arguments) (λ o. o.operand) (λ v. 1 + total v.parts) x

abbrev pub expression_length : Expression → ℕ
expression_length x = fold-Expression ℕ ℕ ℕ ℕ ℕ ℕ argument_tokens expression_tokens part_tokens (λ c. total c.arguments) (λ o. o.operand) (λ v. 1 + total v.parts) x

abbrev pub part_length : Part → ℕ
part_length x = fold-Part ℕ ℕ ℕ ℕ ℕ ℕ argument_tokens expression_tokens part_tokens (λ c. total c.arguments) (λ o. o.operand) (λ v. 1 + total v.parts) x

abbrev pub call_length : Call → ℕ
call_length x = fold-Call ℕ ℕ ℕ ℕ ℕ ℕ argument_tokens expression_tokens part_tokens (λ c. total c.arguments) (λ o. o.operand) (λ v. 1 + total v.parts) x

abbrev pub operation_length : Operation → ℕ
operation_length x = fold-Operation ℕ ℕ ℕ ℕ ℕ ℕ argument_tokens expression_tokens part_tokens (λ c. total c.arguments) (λ o. o.operand) (λ v. 1 + total v.parts) x

abbrev pub variable_length : Variable → ℕ
variable_length x = fold-Variable ℕ ℕ ℕ ℕ ℕ ℕ argument_tokens expression_tokens part_tokens (λ c. total c.arguments) (λ o. o.operand) (λ v. 1 + total v.parts) x

-- ---- statements

abbrev pub step_length : Option Expression → ℕ
step_length None = 0
step_length (Some x) = expression_length x

abbrev pub statement_tokens : Statement-F ℕ ℕ ℕ ℕ ℕ ℕ ℕ ℕ → ℕ
statement_tokens (Statement-F.Assignment v x) = variable_length v + expression_length x
statement_tokens (Statement-F.Call c) = call_length c
statement_tokens (Statement-F.If s) = s
statement_tokens (Statement-F.Case s) = s
statement_tokens (Statement-F.For s) = s
statement_tokens (Statement-F.While s) = s
statement_tokens (Statement-F.Repeat s) = s
statement_tokens _ = 0

abbrev pub statement_length : Statement → ℕ
statement_length x = fold-Statement ℕ ℕ ℕ ℕ ℕ ℕ ℕ ℕ statement_tokens (λ e. total e.statements) (λ s. expression_length s.selector + (total s.cases + total s.otherwise)) (λ b. expression_length b.condition + total b.statements) (λ s. expression_length s.first + (expression_length s.last + (step_length s.step + total s.statements))) (λ s. total s.parts + total s.otherwise) (λ s. expression_length s.condition + total s.statements) (λ s. expression_length s.condition + total s.statements) x

abbrev pub element_length : CaseElement → ℕ
element_length x = fold-CaseElement ℕ ℕ ℕ ℕ ℕ ℕ ℕ ℕ statement_tokens (λ e. total e.statements) (λ s. expression_length s.selector + (total s.cases + total s.otherwise)) (λ b. expression_length b.condition + total b.statements) (λ s. expression_length s.first + (expression_length s.last + (step_length s.step + total s.statements))) (λ s. total s.parts + total s.otherwise) (λ s. expression_length s.condition + total s.statements) (λ s. expression_length s.condition + total s.statements) x

abbrev pub case_length : CaseStatement → ℕ
case_length x = fold-CaseStatement ℕ ℕ ℕ ℕ ℕ ℕ ℕ ℕ statement_tokens (λ e. total e.statements) (λ s. expression_length s.selector + (total s.cases + total s.otherwise)) (λ b. expression_length b.condition + total b.statements) (λ s. expression_length s.first + (expression_length s.last + (step_length s.step + total s.statements))) (λ s. total s.parts + total s.otherwise) (λ s. expression_length s.condition + total s.statements) (λ s. expression_length s.condition + total s.statements) x

abbrev pub branch_length : ConditionalPart → ℕ
branch_length x = fold-ConditionalPart ℕ ℕ ℕ ℕ ℕ ℕ ℕ ℕ statement_tokens (λ e. total e.statements) (λ s. expression_length s.selector + (total s.cases + total s.otherwise)) (λ b. expression_length b.condition + total b.statements) (λ s. expression_length s.first + (expression_length s.last + (step_length s.step + total s.statements))) (λ s. total s.parts + total s.otherwise) (λ s. expression_length s.condition + total s.statements) (λ s. expression_length s.condition + total s.statements) x

abbrev pub for_length : ForStatement → ℕ
for_length x = fold-ForStatement ℕ ℕ ℕ ℕ ℕ ℕ ℕ ℕ statement_tokens (λ e. total e.statements) (λ s. expression_length s.selector + (total s.cases + total s.otherwise)) (λ b. expression_length b.condition + total b.statements) (λ s. expression_length s.first + (expression_length s.last + (step_length s.step + total s.statements))) (λ s. total s.parts + total s.otherwise) (λ s. expression_length s.condition + total s.statements) (λ s. expression_length s.condition + total s.statements) x

abbrev pub if_length : IfStatement → ℕ
if_length x = fold-IfStatement ℕ ℕ ℕ ℕ ℕ ℕ ℕ ℕ statement_tokens (λ e. total e.statements) (λ s. expression_length s.selector + (total s.cases + total s.otherwise)) (λ b. expression_length b.condition + total b.statements) (λ s. expression_length s.first + (expression_length s.last + (step_length s.step + total s.statements))) (λ s. total s.parts + total s.otherwise) (λ s. expression_length s.condition + total s.statements) (λ s. expression_length s.condition + total s.statements) x

abbrev pub repeat_length : RepeatStatement → ℕ
repeat_length x = fold-RepeatStatement ℕ ℕ ℕ ℕ ℕ ℕ ℕ ℕ statement_tokens (λ e. total e.statements) (λ s. expression_length s.selector + (total s.cases + total s.otherwise)) (λ b. expression_length b.condition + total b.statements) (λ s. expression_length s.first + (expression_length s.last + (step_length s.step + total s.statements))) (λ s. total s.parts + total s.otherwise) (λ s. expression_length s.condition + total s.statements) (λ s. expression_length s.condition + total s.statements) x

abbrev pub while_length : WhileStatement → ℕ
while_length x = fold-WhileStatement ℕ ℕ ℕ ℕ ℕ ℕ ℕ ℕ statement_tokens (λ e. total e.statements) (λ s. expression_length s.selector + (total s.cases + total s.otherwise)) (λ b. expression_length b.condition + total b.statements) (λ s. expression_length s.first + (expression_length s.last + (step_length s.step + total s.statements))) (λ s. total s.parts + total s.otherwise) (λ s. expression_length s.condition + total s.statements) (λ s. expression_length s.condition + total s.statements) x

abbrev pub statements_length : List Statement → ℕ
statements_length statements = total (map statement_length statements)

-- ---- charts

-- each association has a word of its own
abbrev pub chart_length : ChartElement → ℕ
chart_length (chart_elements.Step s) = 1 + length s.associations
chart_length (chart_elements.Transition t) = 1 + expression_length t.condition
chart_length (chart_elements.Action a) = 1 + statements_length a.statements

abbrev pub body_length : Body → ℕ
body_length (bodies.Statements statements) = statements_length statements
body_length (bodies.Chart elements) = total (map chart_length elements)

-- ---- units

-- behind each name stands a comma or a colon
abbrev pub declaration_length : Declaration → ℕ
declaration_length d = 2 * length d.names

abbrev pub block_length : VarBlock → ℕ
block_length b = total (map declaration_length b.declarations)

abbrev pub variables_length : List VarBlock → ℕ
variables_length blocks = total (map block_length blocks)

abbrev pub unit_length : Section → ℕ
unit_length (sections.Types p types) = length types
unit_length (sections.Function f) = 1 + (variables_length f.variables + statements_length f.statements)
unit_length (sections.FunctionBlock u) = 1 + (variables_length u.variables + body_length u.body)
unit_length (sections.Program u) = 1 + (variables_length u.variables + body_length u.body)

abbrev pub text_length : List Section → ℕ
text_length text = total (map unit_length text)

-- a text of at most 2 ^ 20 bytes has at most as many tokens, so its tree is short
unfoldable pub IsShort : List Section → Type 0
IsShort text = text_length text ≤ 2 ^ 20
