-- The length of a node is told by its parts.
use Rattle.std.proofs.Common.{rules, ◌≡◌, ◌+◌, List, map}
use Rattle.st_tree.specs.declared.tree.constant.Constant.{Constant}
use Rattle.st_tree.specs.declared.tree.expression.Argument as the_argument
use Rattle.st_tree.specs.declared.tree.expression.Argument.TheVariants as arguments
use Rattle.st_tree.specs.declared.tree.expression.Call as the_call
use Rattle.st_tree.specs.declared.tree.expression.Call.{Call}
use Rattle.st_tree.specs.declared.tree.expression.Expression as the_expression
use Rattle.st_tree.specs.declared.tree.expression.Expression.{Expression}
use Rattle.st_tree.specs.declared.tree.expression.Expression.TheVariants as expressions
use Rattle.st_tree.specs.declared.tree.expression.Operation as the_operation
use Rattle.st_tree.specs.declared.tree.expression.Operation.{Operation}
use Rattle.st_tree.specs.declared.tree.expression.Part as the_part
use Rattle.st_tree.specs.declared.tree.expression.Part.TheVariants as parts
use Rattle.st_tree.specs.declared.tree.expression.Variable as the_variable
use Rattle.st_tree.specs.declared.tree.expression.Variable.{Variable}
use Rattle.st_tree.specs.declared.tree.position.Identifier.{Identifier}
use Rattle.st_tree.specs.declared.tree.position.Position.{Position}
use Rattle.st_tree.specs.declared.tree.statement.CaseElement as the_element
use Rattle.st_tree.specs.declared.tree.statement.CaseElement.{CaseElement}
use Rattle.st_tree.specs.declared.tree.statement.CaseStatement as the_case
use Rattle.st_tree.specs.declared.tree.statement.CaseStatement.{CaseStatement, out-CaseStatement}
use Rattle.st_tree.specs.declared.tree.statement.ConditionalPart as the_branch
use Rattle.st_tree.specs.declared.tree.statement.ConditionalPart.{ConditionalPart}
use Rattle.st_tree.specs.declared.tree.statement.ForStatement as the_for
use Rattle.st_tree.specs.declared.tree.statement.ForStatement.{ForStatement}
use Rattle.st_tree.specs.declared.tree.statement.IfStatement as the_if
use Rattle.st_tree.specs.declared.tree.statement.IfStatement.{IfStatement, out-IfStatement}
use Rattle.st_tree.specs.declared.tree.statement.RepeatStatement as the_repeat
use Rattle.st_tree.specs.declared.tree.statement.RepeatStatement.{RepeatStatement}
use Rattle.st_tree.specs.declared.tree.statement.Statement as the_statement
use Rattle.st_tree.specs.declared.tree.statement.Statement.TheVariants as statements
use Rattle.st_tree.specs.declared.tree.statement.WhileStatement as the_while
use Rattle.st_tree.specs.declared.tree.statement.WhileStatement.{WhileStatement}
use Rattle.st_syntax.specs.Lengths.{argument_length, branch_length, call_length, case_length, element_length, expression_length, for_length, if_length, operation_length, part_length, repeat_length, statement_length, step_length, total, variable_length, while_length}

-- ---- expressions

pub literal_is : (c : Constant) → expression_length (expressions.Constant c) ≡ 1
literal_is c = search (rules, the_expression.the_lemmas)

pub place_is : (v : Variable) → expression_length (expressions.Variable v) ≡ variable_length v
place_is v = search (rules, the_expression.the_lemmas)

pub value_is : (c : Call) → expression_length (expressions.Call c) ≡ call_length c
value_is c = search (rules, the_expression.the_lemmas)

pub parenthesized_is : (p : Position) (x : Expression) → expression_length (expressions.Parenthesized p x) ≡ expression_length x
parenthesized_is p x = search (rules, the_expression.the_lemmas)

pub negation_is : (p : Position) (x : Expression) → expression_length (expressions.Negate p x) ≡ expression_length x
negation_is p x = search (rules, the_expression.the_lemmas)

pub complement_is : (p : Position) (x : Expression) → expression_length (expressions.Not p x) ≡ expression_length x
complement_is p x = search (rules, the_expression.the_lemmas)

pub chain_is : (p : Position) (x : Expression) (os : List Operation) → expression_length (expressions.Chain p x os) ≡ expression_length x + total (map operation_length os)
chain_is p x os = search (rules, the_expression.the_lemmas)

pub operation_is : (o : Operation) → operation_length o ≡ expression_length o.operand
operation_is o = search (rules, the_operation.the_lemmas)

pub variable_is : (v : Variable) → variable_length v ≡ 1 + total (map part_length v.parts)
variable_is v = search (rules, the_variable.the_lemmas)

pub field_is : (n : Identifier) → part_length (parts.Field n) ≡ 1
field_is n = search (rules, the_part.the_lemmas)

pub subscripts_is : (p : Position) (xs : List Expression) → part_length (parts.Subscripts p xs) ≡ total (map expression_length xs)
subscripts_is p xs = search (rules, the_part.the_lemmas)

pub call_is : (c : Call) → call_length c ≡ total (map argument_length c.arguments)
call_is c = search (rules, the_call.the_lemmas)

pub positional_is : (x : Expression) → argument_length (arguments.Positional x) ≡ 1 + expression_length x
positional_is x = search (rules, the_argument.the_lemmas)

pub input_is : (n : Identifier) (x : Expression) → argument_length (arguments.Input n x) ≡ 1 + expression_length x
input_is n x = search (rules, the_argument.the_lemmas)

pub output_is : (n : Identifier) (v : Variable) → argument_length (arguments.Output n v) ≡ 1 + variable_length v
output_is n v = search (rules, the_argument.the_lemmas)

-- ---- statements

pub assignment_is : (v : Variable) (x : Expression) → statement_length (statements.Assignment v x) ≡ variable_length v + expression_length x
assignment_is v x = search (rules, the_statement.the_lemmas)

pub invocation_is : (c : Call) → statement_length (statements.Call c) ≡ call_length c
invocation_is c = search (rules, the_statement.the_lemmas)

pub if_statement_is : (s : IfStatement) → statement_length (statements.If s) ≡ if_length s
if_statement_is s = search (rules, the_statement.the_lemmas)

pub case_statement_is : (s : CaseStatement) → statement_length (statements.Case s) ≡ case_length s
case_statement_is s = search (rules, the_statement.the_lemmas)

pub for_statement_is : (s : ForStatement) → statement_length (statements.For s) ≡ for_length s
for_statement_is s = search (rules, the_statement.the_lemmas)

pub while_statement_is : (s : WhileStatement) → statement_length (statements.While s) ≡ while_length s
while_statement_is s = search (rules, the_statement.the_lemmas)

pub repeat_statement_is : (s : RepeatStatement) → statement_length (statements.Repeat s) ≡ repeat_length s
repeat_statement_is s = search (rules, the_statement.the_lemmas)

pub empty_is : (p : Position) → statement_length (statements.Empty p) ≡ 0
empty_is p = search (rules, the_statement.the_lemmas)

pub return_is : (p : Position) → statement_length (statements.Return p) ≡ 0
return_is p = search (rules, the_statement.the_lemmas)

pub exit_is : (p : Position) → statement_length (statements.Exit p) ≡ 0
exit_is p = search (rules, the_statement.the_lemmas)

pub if_is : (s : IfStatement) → if_length s ≡ total (map branch_length (out-IfStatement s).parts) + total (map statement_length (out-IfStatement s).otherwise)
if_is s = search (rules, the_if.the_lemmas)

pub branch_is : (b : ConditionalPart) → branch_length b ≡ expression_length b.condition + total (map statement_length b.statements)
branch_is b = search (rules, the_branch.the_lemmas)

pub case_is : (s : CaseStatement)
    → case_length s ≡ expression_length (out-CaseStatement s).selector + (total (map element_length (out-CaseStatement s).cases) + total (map statement_length (out-CaseStatement s).otherwise))
case_is s = search (rules, the_case.the_lemmas)

pub element_is : (e : CaseElement) → element_length e ≡ total (map statement_length e.statements)
element_is e = search (rules, the_element.the_lemmas)

pub for_is : (s : ForStatement)
    → for_length s ≡ expression_length s.first + (expression_length s.last + (step_length s.step + total (map statement_length s.statements)))
for_is s = search (rules, the_for.the_lemmas)

pub while_is : (s : WhileStatement) → while_length s ≡ expression_length s.condition + total (map statement_length s.statements)
while_is s = search (rules, the_while.the_lemmas)

pub repeat_is : (s : RepeatStatement) → repeat_length s ≡ expression_length s.condition + total (map statement_length s.statements)
repeat_is s = search (rules, the_repeat.the_lemmas)
