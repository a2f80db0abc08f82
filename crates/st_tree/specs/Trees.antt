-- Functions of trees, as folds: what a node gives, once each of its children stands for what it gives.
use Rattle.std.specs.Prelude.{Bool, true, false, ◌||◌, List, [], ◌∷◌}
use Rattle.st_tree.specs.declared.tree.expression.Expression.{Expression, fold-Expression}
use Rattle.st_tree.specs.declared.tree.expression.Operation.{Operation, fold-Operation}
use Rattle.st_tree.specs.declared.tree.expression.Part.{Part, fold-Part}
use Rattle.st_tree.specs.declared.tree.expression.Variable.{Variable, fold-Variable}
use Rattle.st_tree.specs.declared.tree.expression.Argument.TheOpen.{Argument-F, Expression-F, Part-F}
use Rattle.st_tree.specs.declared.tree.statement.CaseElement.{CaseElement, fold-CaseElement}
use Rattle.st_tree.specs.declared.tree.statement.CaseStatement.{CaseStatement, fold-CaseStatement}
use Rattle.st_tree.specs.declared.tree.statement.ConditionalPart.{ConditionalPart, fold-ConditionalPart}
use Rattle.st_tree.specs.declared.tree.statement.IfStatement.{IfStatement, fold-IfStatement}
use Rattle.st_tree.specs.declared.tree.statement.Statement.{Statement, fold-Statement}
use Rattle.st_tree.specs.declared.tree.statement.Statement.TheOpen.{Statement-F}

-- one of them is true
abbrev pub any : List Bool → Bool
any [] = false
any (x ∷ xs) = x || any xs

abbrev pub call_in_expression : Expression-F Bool Bool Bool Bool Bool Bool → Bool
call_in_expression (Expression-F.Constant c) = false
call_in_expression (Expression-F.Variable v) = v
call_in_expression (Expression-F.Call c) = true
call_in_expression (Expression-F.Parenthesized p x) = x
call_in_expression (Expression-F.Negate p x) = x
call_in_expression (Expression-F.Not p x) = x
call_in_expression (Expression-F.Chain p x ls) = x || any ls

abbrev pub call_in_argument : Argument-F Bool Bool Bool Bool Bool Bool → Bool
call_in_argument (Argument-F.Positional x) = x
call_in_argument (Argument-F.Input n x) = x
call_in_argument (Argument-F.Output n v) = v

abbrev pub call_in_part : Part-F Bool Bool Bool Bool Bool Bool → Bool
call_in_part (Part-F.Field n) = false
call_in_part (Part-F.Subscripts p xs) = any xs

-- a call stands in the expression
abbrev pub has_call : Expression → Bool
has_call x = fold-Expression Bool Bool Bool Bool Bool Bool call_in_argument call_in_expression call_in_part (λ c. true) (λ o. o.operand) (λ v. any v.parts) x

abbrev pub operation_has_call : Operation → Bool
operation_has_call x = fold-Operation Bool Bool Bool Bool Bool Bool call_in_argument call_in_expression call_in_part (λ c. true) (λ o. o.operand) (λ v. any v.parts) x

abbrev pub variable_has_call : Variable → Bool
variable_has_call x = fold-Variable Bool Bool Bool Bool Bool Bool call_in_argument call_in_expression call_in_part (λ c. true) (λ o. o.operand) (λ v. any v.parts) x

abbrev pub part_has_call : Part → Bool
part_has_call x = fold-Part Bool Bool Bool Bool Bool Bool call_in_argument call_in_expression call_in_part (λ c. true) (λ o. o.operand) (λ v. any v.parts) x

abbrev pub exit_in_statement : Statement-F Bool Bool Bool Bool Bool Bool Bool Bool → Bool
exit_in_statement (Statement-F.Exit p) = true
exit_in_statement (Statement-F.If s) = s
exit_in_statement (Statement-F.Case s) = s
exit_in_statement _ = false

-- EXIT stands in the statement, and in no loop in it
abbrev pub has_exit : Statement → Bool
has_exit x = fold-Statement Bool Bool Bool Bool Bool Bool Bool Bool exit_in_statement (λ e. any e.statements) (λ s. any s.cases || any s.otherwise) (λ c. any c.statements) (λ s. false) (λ s. any s.parts || any s.otherwise) (λ s. false) (λ s. false) x

abbrev pub if_has_exit : IfStatement → Bool
if_has_exit x = fold-IfStatement Bool Bool Bool Bool Bool Bool Bool Bool exit_in_statement (λ e. any e.statements) (λ s. any s.cases || any s.otherwise) (λ c. any c.statements) (λ s. false) (λ s. any s.parts || any s.otherwise) (λ s. false) (λ s. false) x

abbrev pub case_has_exit : CaseStatement → Bool
case_has_exit x = fold-CaseStatement Bool Bool Bool Bool Bool Bool Bool Bool exit_in_statement (λ e. any e.statements) (λ s. any s.cases || any s.otherwise) (λ c. any c.statements) (λ s. false) (λ s. any s.parts || any s.otherwise) (λ s. false) (λ s. false) x

abbrev pub conditional_has_exit : ConditionalPart → Bool
conditional_has_exit x = fold-ConditionalPart Bool Bool Bool Bool Bool Bool Bool Bool exit_in_statement (λ e. any e.statements) (λ s. any s.cases || any s.otherwise) (λ c. any c.statements) (λ s. false) (λ s. any s.parts || any s.otherwise) (λ s. false) (λ s. false) x

abbrev pub element_has_exit : CaseElement → Bool
element_has_exit x = fold-CaseElement Bool Bool Bool Bool Bool Bool Bool Bool exit_in_statement (λ e. any e.statements) (λ s. any s.cases || any s.otherwise) (λ c. any c.statements) (λ s. false) (λ s. any s.parts || any s.otherwise) (λ s. false) (λ s. false) x
