-- What the rules say of statements (3.3.2).
use Rattle.std.specs.Prelude.{ℕ, Bool, true, false, ◌&&◌, ◌||◌, not, List, [], ◌∷◌, ◌++◌, map, Option, Some, None, if◌then◌else◌}
use Rattle.std.specs.List.{flat_map, list_any}
use Rattle.st_values.specs.Words.{is_word}
use Rattle.st_values.specs.declared.elem.Elem.{Elem}
use Rattle.st_values.specs.declared.elem.Elem.TheVariants as elems
use Rattle.st_tree.specs.declared.tree.expression.Expression.{Expression}
use Rattle.st_tree.specs.declared.tree.expression.Variable.{Variable}
use Rattle.st_tree.specs.declared.tree.position.Identifier.{Identifier}
use Rattle.st_tree.specs.declared.tree.statement.CaseElement.{CaseElement, fold-CaseElement}
use Rattle.st_tree.specs.declared.tree.statement.CaseStatement.{CaseStatement, fold-CaseStatement}
use Rattle.st_tree.specs.declared.tree.statement.ConditionalPart.{ConditionalPart, fold-ConditionalPart}
use Rattle.st_tree.specs.declared.tree.statement.ForStatement.{ForStatement, fold-ForStatement}
use Rattle.st_tree.specs.declared.tree.statement.IfStatement.{IfStatement, fold-IfStatement}
use Rattle.st_tree.specs.declared.tree.statement.Label.{Label}
use Rattle.st_tree.specs.declared.tree.statement.Label.TheVariants as labels
use Rattle.st_tree.specs.declared.tree.statement.RepeatStatement.{RepeatStatement, fold-RepeatStatement}
use Rattle.st_tree.specs.declared.tree.statement.Statement.{Statement, fold-Statement}
use Rattle.st_tree.specs.declared.tree.statement.Statement.TheOpen.{CaseElement-F, CaseStatement-F, ConditionalPart-F, ForStatement-F, IfStatement-F, RepeatStatement-F, Statement-F, WhileStatement-F}
use Rattle.st_tree.specs.declared.tree.statement.WhileStatement.{WhileStatement, fold-WhileStatement}
use Rattle.st_faults.specs.Faults.{fault, when}
use Rattle.st_faults.specs.declared.fault.Fault.{Fault}
use Rattle.st_faults.specs.declared.fault.Rule.TheVariants as rules
use Rattle.st_operators.specs.Operators.{is_integer}
use Rattle.st_types.specs.Scopes.{Scope, elem_due}
use Rattle.st_types.specs.Types.{Shape, elem_of, is_unknown}
use Rattle.st_types.specs.declared.symbol.Due.{Due}
use Rattle.st_types.specs.declared.symbol.Due.TheVariants as dues
use Rattle.st_types.specs.declared.symbol.Symbol.{Symbol}
use Rattle.st_check_expressions.specs.Known.{due_literal_faults, faults_as, literal_position, selected}
use Rattle.st_check_expressions.specs.Variables.{is_fixed_purpose, target_faults}
use Rattle.st_check_expressions.specs.Walk.{known, known_call, known_variable}
use Rattle.st_check_statements.specs.Invocations.{call_statement_faults}

-- where a statement stands: whether a loop is around it, and the variables that the FOR loops around it count, from the outside in
pub record Around : Type 0 where
  pub in_loop : Bool
  pub counters : List (List ℕ)

abbrev pub around : Bool → List (List ℕ) → Around
around in_loop counters = record { in_loop = in_loop; counters = counters }

-- inside a loop that counts no variable, which stands there
abbrev pub inside_loop : Around → Around
inside_loop a = around true a.counters

-- inside a FOR loop that counts the variable of this name
abbrev pub inside_for : List ℕ → Around → Around
inside_for name a = around true (a.counters ++ name ∷ [])

-- what the rules say of a statement, by where it stands
abbrev pub InStatement : Type 0
InStatement = Around → List Fault

-- of all of these statements, or parts of one
abbrev pub all_faults : List InStatement → InStatement
all_faults statements a = flat_map (λ s. s a) statements

-- ---- assignments (3.3.2.1)

-- The value has the type of the target.
abbrev pub assignment_faults : Scope → Variable → Expression → InStatement
assignment_faults scope v x a =
    target_faults a.counters (known_variable scope v) ++ faults_as (known scope x) (elem_due (elem_of (known_variable scope v).reached.shape))

-- ---- IF and CASE (3.3.2.3)

-- A condition is a BOOL.
abbrev pub condition_faults : Scope → Expression → List Fault
condition_faults scope x = faults_as (known scope x) (dues.Type elems.Bool)

-- A label has the type of the selector, if that can be known.
abbrev pub label_faults : Option Elem → Label → List Fault
label_faults e (labels.Value c) = due_literal_faults c (literal_position c) e
label_faults e (labels.Range c d) = due_literal_faults c (literal_position c) e ++ due_literal_faults d (literal_position d) e

-- ---- FOR (3.3.2.4)

abbrev pub is_integer_type : Option Elem → Bool
is_integer_type None = false
is_integer_type (Some e) = is_integer e

-- it is an integer variable, or can't be known
abbrev pub counts : Shape → Bool
counts s = is_unknown s.base || is_integer_type (elem_of s)

-- The variable of FOR is an integer variable that may be assigned, and that no loop around counts.
abbrev pub may_count : List (List ℕ) → List ℕ → Symbol → Bool
may_count counters name s = counts s.shape && not (is_fixed_purpose s.purpose) && not (list_any (is_word name) counters)

-- It is a variable of the unit.
abbrev pub counter_faults : List (List ℕ) → Identifier → Option Symbol → List Fault
counter_faults counters name None = fault name.position rules.UnknownName ∷ []
counter_faults counters name (Some s) = when (not (may_count counters name.spelling s)) (fault name.position rules.NotAssignable)

-- what is asked of its first and last value and of the step
abbrev pub counter_due : Option Symbol → Due
counter_due None = dues.Any
counter_due (Some s) = if counts s.shape then elem_due (elem_of s.shape) else dues.Any

abbrev pub optional_faults : Scope → Due → Option Expression → List Fault
optional_faults scope due None = []
optional_faults scope due (Some x) = faults_as (known scope x) due

-- of the first and last value and the step
abbrev pub range_faults : Scope → Due → Expression → Expression → Option Expression → List Fault
range_faults scope due first last step = faults_as (known scope first) due ++ faults_as (known scope last) due ++ optional_faults scope due step

-- ---- the fold: the parts of a statement stand for what the rules say of them

abbrev pub statement_step : Scope → Statement-F InStatement (Option Elem → InStatement) InStatement InStatement InStatement InStatement InStatement InStatement → InStatement
statement_step scope (Statement-F.Empty position) a = []
statement_step scope (Statement-F.Assignment v x) a = assignment_faults scope v x a
statement_step scope (Statement-F.Call c) a = call_statement_faults scope a.counters (known_call scope c)
statement_step scope (Statement-F.Return position) a = []
statement_step scope (Statement-F.Exit position) a = when (not a.in_loop) (fault position rules.CallMismatch)
statement_step scope (Statement-F.If s) a = s a
statement_step scope (Statement-F.Case s) a = s a
statement_step scope (Statement-F.For s) a = s a
statement_step scope (Statement-F.While s) a = s a
statement_step scope (Statement-F.Repeat s) a = s a

abbrev pub element_step : CaseElement-F InStatement (Option Elem → InStatement) InStatement InStatement InStatement InStatement InStatement InStatement → Option Elem → InStatement
element_step c e a = flat_map (label_faults e) c.labels ++ all_faults c.statements a

-- The selector is an integer.
abbrev pub case_step : Scope → CaseStatement-F InStatement (Option Elem → InStatement) InStatement InStatement InStatement InStatement InStatement InStatement → InStatement
case_step scope s a =
    faults_as (known scope s.selector) dues.Integer ++ flat_map (λ c. c (selected (known scope s.selector)) a) s.cases ++ all_faults s.otherwise a

abbrev pub part_step : Scope → ConditionalPart-F InStatement (Option Elem → InStatement) InStatement InStatement InStatement InStatement InStatement InStatement → InStatement
part_step scope c a = condition_faults scope c.condition ++ all_faults c.statements a

abbrev pub for_step : Scope → ForStatement-F InStatement (Option Elem → InStatement) InStatement InStatement InStatement InStatement InStatement InStatement → InStatement
for_step scope s a =
    counter_faults a.counters s.variable (scope.variable s.variable.spelling)
    ++ range_faults scope (counter_due (scope.variable s.variable.spelling)) s.first s.last s.step
    ++ all_faults s.statements (inside_for s.variable.spelling a)

abbrev pub if_step : IfStatement-F InStatement (Option Elem → InStatement) InStatement InStatement InStatement InStatement InStatement InStatement → InStatement
if_step s a = all_faults s.parts a ++ all_faults s.otherwise a

abbrev pub repeat_step : Scope → RepeatStatement-F InStatement (Option Elem → InStatement) InStatement InStatement InStatement InStatement InStatement InStatement → InStatement
repeat_step scope s a = all_faults s.statements (inside_loop a) ++ condition_faults scope s.condition

abbrev pub while_step : Scope → WhileStatement-F InStatement (Option Elem → InStatement) InStatement InStatement InStatement InStatement InStatement InStatement → InStatement
while_step scope s a = condition_faults scope s.condition ++ all_faults s.statements (inside_loop a)

-- ---- what the rules say of each node

abbrev pub statement_faults : Scope → Statement → InStatement
statement_faults scope s = fold-Statement InStatement (Option Elem → InStatement) InStatement InStatement InStatement InStatement InStatement InStatement (statement_step scope) element_step (case_step scope) (part_step scope) (for_step scope) if_step (repeat_step scope) (while_step scope) s

abbrev pub element_faults : Scope → CaseElement → Option Elem → InStatement
element_faults scope c = fold-CaseElement InStatement (Option Elem → InStatement) InStatement InStatement InStatement InStatement InStatement InStatement (statement_step scope) element_step (case_step scope) (part_step scope) (for_step scope) if_step (repeat_step scope) (while_step scope) c

abbrev pub case_faults : Scope → CaseStatement → InStatement
case_faults scope s = fold-CaseStatement InStatement (Option Elem → InStatement) InStatement InStatement InStatement InStatement InStatement InStatement (statement_step scope) element_step (case_step scope) (part_step scope) (for_step scope) if_step (repeat_step scope) (while_step scope) s

abbrev pub part_faults : Scope → ConditionalPart → InStatement
part_faults scope c = fold-ConditionalPart InStatement (Option Elem → InStatement) InStatement InStatement InStatement InStatement InStatement InStatement (statement_step scope) element_step (case_step scope) (part_step scope) (for_step scope) if_step (repeat_step scope) (while_step scope) c

abbrev pub for_faults : Scope → ForStatement → InStatement
for_faults scope s = fold-ForStatement InStatement (Option Elem → InStatement) InStatement InStatement InStatement InStatement InStatement InStatement (statement_step scope) element_step (case_step scope) (part_step scope) (for_step scope) if_step (repeat_step scope) (while_step scope) s

abbrev pub if_faults : Scope → IfStatement → InStatement
if_faults scope s = fold-IfStatement InStatement (Option Elem → InStatement) InStatement InStatement InStatement InStatement InStatement InStatement (statement_step scope) element_step (case_step scope) (part_step scope) (for_step scope) if_step (repeat_step scope) (while_step scope) s

abbrev pub repeat_faults : Scope → RepeatStatement → InStatement
repeat_faults scope s = fold-RepeatStatement InStatement (Option Elem → InStatement) InStatement InStatement InStatement InStatement InStatement InStatement (statement_step scope) element_step (case_step scope) (part_step scope) (for_step scope) if_step (repeat_step scope) (while_step scope) s

abbrev pub while_faults : Scope → WhileStatement → InStatement
while_faults scope s = fold-WhileStatement InStatement (Option Elem → InStatement) InStatement InStatement InStatement InStatement InStatement InStatement (statement_step scope) element_step (case_step scope) (part_step scope) (for_step scope) if_step (repeat_step scope) (while_step scope) s

-- of a body's statements
abbrev pub body_faults : Scope → List Statement → List Fault
body_faults scope statements = all_faults (map (statement_faults scope) statements) (around false [])
