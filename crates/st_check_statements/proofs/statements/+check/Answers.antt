use Rattle.std.proofs.Common.{ap}
use Rattle.st_types.specs.Scopes.{scope_at}
use Rattle.st_check_statements.specs.Statements.{Around, element_faults, part_faults, statement_faults}
use Rattle.st_check_statements.proofs.Folds.{case_is, element_is, for_is, if_is, repeat_is, while_is}
use Rattle.st_faults.proofs.Offers.{both, known_turn, three}
use Rattle.st_check_statements.proofs.statements.+check.Goals as goal

pub check_statements-statements-preserved : goal.check_statements-statements-preserved
check_statements-statements-preserved t c =
    known_turn (λ s. s c.args.around.now) (statement_faults (scope_at c.args.scope.now)) c.args.statements.now c.statements.statement-index c.statement-item.result c.statements.first c.check_statement.new.first _
    c.statements-test.true c.statement-item.is c.in_ok-check_statement.ensures c.statements.invariant

pub check_parts-parts-preserved : goal.check_parts-parts-preserved
check_parts-parts-preserved t c =
    known_turn (λ p. p c.args.around.now) (part_faults (scope_at c.args.scope.now)) c.args.parts.now c.parts.part-index c.part-item.result c.parts.first c.check_part.new.first _
    c.parts-test.true c.part-item.is c.in_ok-check_part.ensures c.parts.invariant

pub check_elements-elements-preserved : goal.check_elements-elements-preserved
check_elements-elements-preserved t c =
    known_turn (λ e. e c.args.elem c.args.around.now) (element_faults (scope_at c.args.scope.now)) c.args.elements.now c.elements.element-index c.element-item.result c.elements.first c.check_element.new.first _
    c.elements-test.true c.element-item.is c.in_ok-check_element.ensures c.elements.invariant

pub check_if-returns : goal.check_if-returns
check_if-returns t c =
    rw (if_is, ← c.as_slice.ensures, ← c.as_slice-2.ensures) (both _ _ _ _ _ c.in_ok-check_parts.ensures c.in_ok-check_statements.ensures)

pub check_case-returns : goal.check_case-returns
check_case-returns t c =
    rw (case_is, ← c.get-selector.ensures, ← c.as_slice.ensures, ← c.as_slice-2.ensures)
    (three _ _ _ _ _ _ _ c.in_ok-check_expression.ensures (rw c.in_ok-elem.ensures at c.in_ok-check_elements.ensures) c.in_ok-check_statements.ensures)

pub check_element-returns : goal.check_element-returns
check_element-returns t c =
    rw (element_is, ← c.as_slice.ensures, ← c.as_slice-2.ensures) (both _ _ _ _ _ c.check_labels.ensures c.in_ok-check_statements.ensures)

pub check_for-returns : goal.check_for-returns
check_for-returns t c =
    rw (for_is, ← c.get.ensures, ← c.get-2.ensures, ← c.as_slice.ensures)
    (three _ _ _ _ _ _ _ (rw (ap Around.counters c.around.view_is) at c.check_counter.ensures)
    (rw c.counter_due-due.ensures at c.in_ok-check_range.ensures)
    (rw c.as_slice-name.ensures at c.in_ok-check_inside_for.ensures))

pub check_repeat-returns : goal.check_repeat-returns
check_repeat-returns t c =
    rw (repeat_is, ← c.inside_loop-inside.ensures, ← c.get.ensures, ← c.as_slice.ensures) (both _ _ _ _ _ c.in_ok-check_statements.ensures c.in_ok-check_condition.ensures)

pub check_while-returns : goal.check_while-returns
check_while-returns t c =
    rw (while_is, ← c.inside_loop-inside.ensures, ← c.get.ensures, ← c.as_slice.ensures) (both _ _ _ _ _ c.in_ok-check_condition.ensures c.in_ok-check_statements.ensures)
