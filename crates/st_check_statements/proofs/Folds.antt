-- What the rules say of a node is made of what they say of its parts.
use Rattle.std.proofs.Common.{rules, ◌≡◌, ℕ, List, ◌++◌, map, Option, ap}
use Rattle.std.specs.List.{flat_map}
use Rattle.st_values.specs.declared.elem.Elem.{Elem}
use Rattle.st_tree.specs.declared.tree.expression.Variable.{Variable}
use Rattle.st_tree.specs.declared.tree.position.Identifier.{Identifier}
use Rattle.st_tree.specs.declared.tree.statement.CaseElement as the_element
use Rattle.st_tree.specs.declared.tree.statement.CaseElement.{CaseElement}
use Rattle.st_tree.specs.declared.tree.statement.CaseStatement as the_case
use Rattle.st_tree.specs.declared.tree.statement.CaseStatement.{CaseStatement, out-CaseStatement}
use Rattle.st_tree.specs.declared.tree.statement.ConditionalPart as the_part
use Rattle.st_tree.specs.declared.tree.statement.ConditionalPart.{ConditionalPart}
use Rattle.st_tree.specs.declared.tree.statement.ForStatement as the_for
use Rattle.st_tree.specs.declared.tree.statement.ForStatement.{ForStatement}
use Rattle.st_tree.specs.declared.tree.statement.IfStatement as the_if
use Rattle.st_tree.specs.declared.tree.statement.IfStatement.{IfStatement, out-IfStatement}
use Rattle.st_tree.specs.declared.tree.statement.RepeatStatement as the_repeat
use Rattle.st_tree.specs.declared.tree.statement.RepeatStatement.{RepeatStatement}
use Rattle.st_tree.specs.declared.tree.statement.WhileStatement as the_while
use Rattle.st_tree.specs.declared.tree.statement.WhileStatement.{WhileStatement}
use Rattle.st_types.specs.Scopes.{Scope}
use Rattle.st_types.specs.declared.base.Base.{Base}
use Rattle.st_types.specs.declared.symbol.Due.TheVariants as dues
use Rattle.st_check_expressions.specs.Known.{faults_as, selected}
use Rattle.st_check_expressions.specs.Variables.{VariableKnown, target_faults}
use Rattle.st_check_expressions.specs.Walk.{known, known_variable}
use Rattle.st_check_expressions.proofs.Folds.{known_variable_is}
use Rattle.st_check_statements.specs.Invocations.{output_faults, pin, taker_faults}
use Rattle.st_check_statements.specs.Statements.{Around, all_faults, case_faults, condition_faults, counter_due, counter_faults, element_faults, for_faults, if_faults, inside_for, inside_loop, label_faults, part_faults, range_faults, repeat_faults, statement_faults, while_faults}

pub if_is : (scope : Scope) (s : IfStatement) (a : Around)
    → if_faults scope s a ≡ all_faults (map (part_faults scope) (out-IfStatement s).parts) a ++ all_faults (map (statement_faults scope) (out-IfStatement s).otherwise) a
if_is scope s a = search (rules, the_if.the_lemmas)

pub part_is : (scope : Scope) (c : ConditionalPart) (a : Around) → part_faults scope c a ≡ condition_faults scope c.condition ++ all_faults (map (statement_faults scope) c.statements) a
part_is scope c a = search (rules, the_part.the_lemmas)

pub case_is : (scope : Scope) (s : CaseStatement) (a : Around)
    → case_faults scope s a
    ≡ faults_as (known scope (out-CaseStatement s).selector) dues.Integer
    ++ flat_map (λ c. c (selected (known scope (out-CaseStatement s).selector)) a) (map (element_faults scope) (out-CaseStatement s).cases)
    ++ all_faults (map (statement_faults scope) (out-CaseStatement s).otherwise) a
case_is scope s a = search (rules, the_case.the_lemmas)

pub element_is : (scope : Scope) (c : CaseElement) (e : Option Elem) (a : Around) → element_faults scope c e a ≡ flat_map (label_faults e) c.labels ++ all_faults (map (statement_faults scope) c.statements) a
element_is scope c e a = search (rules, the_element.the_lemmas)

pub for_is : (scope : Scope) (s : ForStatement) (a : Around)
    → for_faults scope s a
    ≡ counter_faults a.counters s.variable (scope.variable s.variable.spelling)
    ++ range_faults scope (counter_due (scope.variable s.variable.spelling)) s.first s.last s.step
    ++ all_faults (map (statement_faults scope) s.statements) (inside_for s.variable.spelling a)
for_is scope s a = search (rules, the_for.the_lemmas)

pub while_is : (scope : Scope) (s : WhileStatement) (a : Around) → while_faults scope s a ≡ condition_faults scope s.condition ++ all_faults (map (statement_faults scope) s.statements) (inside_loop a)
while_is scope s a = search (rules, the_while.the_lemmas)

pub repeat_is : (scope : Scope) (s : RepeatStatement) (a : Around) → repeat_faults scope s a ≡ all_faults (map (statement_faults scope) s.statements) (inside_loop a) ++ condition_faults scope s.condition
repeat_is scope s a = search (rules, the_repeat.the_lemmas)

-- ---- call statements

-- a variable that takes an output
pub output_is : (scope : Scope) (base : Base) (counters : List (List ℕ)) (name : Identifier) (v : Variable)
    → output_faults scope base counters name (known_variable scope v)
    ≡ target_faults counters (known_variable scope v) ++ taker_faults v.name.position (known_variable scope v).reached.shape (pin scope base name)
output_is scope base counters name v =
    ap (λ k. target_faults counters (known_variable scope v) ++ taker_faults (VariableKnown.name k).position (known_variable scope v).reached.shape (pin scope base name)) (known_variable_is scope v)
