-- What is called in a node of a tree, by what is called in its children.
use Rattle.std.proofs.Common.{rules, ◌≡◌, List, ◌++◌, map}
use Rattle.st_tree.specs.declared.tree.expression.Expression.{Expression}
use Rattle.st_tree.specs.declared.tree.expression.Expression as the_expression
use Rattle.st_tree.specs.declared.tree.expression.Expression.TheVariants as expressions
use Rattle.st_tree.specs.declared.tree.expression.Operation.{Operation}
use Rattle.st_tree.specs.declared.tree.expression.Variable.{Variable}
use Rattle.st_tree.specs.declared.tree.position.Position.{Position}
use Rattle.st_tree.specs.declared.tree.statement.CaseStatement.{CaseStatement, out-CaseStatement}
use Rattle.st_tree.specs.declared.tree.statement.CaseStatement as the_case
use Rattle.st_tree.specs.declared.tree.statement.ConditionalPart.{ConditionalPart}
use Rattle.st_tree.specs.declared.tree.statement.ConditionalPart as the_conditional
use Rattle.st_tree.specs.declared.tree.statement.ForStatement.{ForStatement}
use Rattle.st_tree.specs.declared.tree.statement.ForStatement as the_for
use Rattle.st_tree.specs.declared.tree.statement.IfStatement.{IfStatement, out-IfStatement}
use Rattle.st_tree.specs.declared.tree.statement.IfStatement as the_if
use Rattle.st_tree.specs.declared.tree.statement.RepeatStatement.{RepeatStatement}
use Rattle.st_tree.specs.declared.tree.statement.RepeatStatement as the_repeat
use Rattle.st_tree.specs.declared.tree.statement.Statement as the_statement
use Rattle.st_tree.specs.declared.tree.statement.Statement.TheVariants as statement_kinds
use Rattle.st_tree.specs.declared.tree.statement.WhileStatement.{WhileStatement}
use Rattle.st_tree.specs.declared.tree.statement.WhileStatement as the_while
use Rattle.st_references.specs.Calls.{all, case_calls, case_element_calls, conditional_calls, expression_calls, for_calls, if_calls, operation_calls, optional_calls, repeat_calls, statement_calls, variable_calls, while_calls}

pub chain_calls : (p : Position) (x : Expression) (ls : List Operation)
    → expression_calls (expressions.Chain p x ls) ≡ expression_calls x ++ all (map operation_calls ls)
chain_calls p x ls = search (rules, the_expression.the_lemmas)

pub assignment_calls : (v : Variable) (x : Expression)
    → statement_calls (statement_kinds.Assignment v x) ≡ variable_calls v ++ expression_calls x
assignment_calls v x = search (rules, the_statement.the_lemmas)

pub if_calls_are : (s : IfStatement) → if_calls s ≡ all (map conditional_calls (out-IfStatement s).parts) ++ all (map statement_calls (out-IfStatement s).otherwise)
if_calls_are s = search (rules, the_if.the_lemmas)

pub conditional_calls_are : (c : ConditionalPart) → conditional_calls c ≡ expression_calls c.condition ++ all (map statement_calls c.statements)
conditional_calls_are c = search (rules, the_conditional.the_lemmas)

pub case_calls_are : (s : CaseStatement)
    → case_calls s ≡ expression_calls (out-CaseStatement s).selector ++ all (map case_element_calls (out-CaseStatement s).cases) ++ all (map statement_calls (out-CaseStatement s).otherwise)
case_calls_are s = search (rules, the_case.the_lemmas)

pub for_calls_are : (s : ForStatement)
    → for_calls s ≡ expression_calls s.first ++ expression_calls s.last ++ optional_calls s.step ++ all (map statement_calls s.statements)
for_calls_are s = search (rules, the_for.the_lemmas)

pub while_calls_are : (s : WhileStatement) → while_calls s ≡ expression_calls s.condition ++ all (map statement_calls s.statements)
while_calls_are s = search (rules, the_while.the_lemmas)

pub repeat_calls_are : (s : RepeatStatement) → repeat_calls s ≡ all (map statement_calls s.statements) ++ expression_calls s.condition
repeat_calls_are s = search (rules, the_repeat.the_lemmas)
