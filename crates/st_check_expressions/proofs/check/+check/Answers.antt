use Rattle.std.proofs.Common.{◌+◌, ◌++◌, ap, drop, map, refl, sym}
use Rattle.st_types.specs.Scopes.{scope_at}
use Rattle.st_types.specs.declared.symbol.Due.TheVariants as dues
use Rattle.st_check_expressions.specs.Calls.{argument_faults, arguments_faults}
use Rattle.st_check_expressions.specs.Inside.{operands_from}
use Rattle.st_check_expressions.specs.Known.{OperandKnown, faults_as, faults_here}
use Rattle.st_check_expressions.specs.Variables.{part_faults, parts_faults, select_all, subscripts_faults}
use Rattle.st_check_expressions.specs.Walk.{known, known_argument, known_arguments, known_expressions, known_operation, known_operations, known_part, known_parts}
use Rattle.st_faults.proofs.Offers.{split_turn, step}
use Rattle.st_check_expressions.proofs.Steps.{call_done, chain_done, due_done, here_done, negate_done, not_done, subscripts_done, target_done, variable_done}
use Rattle.st_check_expressions.proofs.check.+check.Goals as goal

-- ---- loops

pub check_subscripts-subscripts-preserved : goal.check_subscripts-subscripts-preserved
check_subscripts-subscripts-preserved t c =
    split_turn (λ xs. subscripts_faults (known_expressions (scope_at c.args.scope.now) xs)) (λ xs. subscripts_faults (known_expressions (scope_at c.args.scope.now) xs))
    (faults_as (known (scope_at c.args.scope.now) c.subscript-item.result) dues.Integer) c.args.subscripts.now c.subscripts.subscript-index c.subscript-item.result c.subscripts.first c.check_expression.new.first _ refl
    c.subscripts-test.true c.subscript-item.is c.in_ok-check_expression.ensures c.subscripts.invariant

pub check_operations-operations-preserved : goal.check_operations-operations-preserved
check_operations-operations-preserved t c =
    split_turn (λ ls. operands_from (known_operations (scope_at c.args.scope.now) ls) c.operations.due c.args.further_due)
    (λ ls. operands_from (known_operations (scope_at c.args.scope.now) ls) c.args.further_due c.args.further_due)
    (faults_here (OperandKnown.operand (known_operation (scope_at c.args.scope.now) c.operation-item.result)) c.operations.due)
    c.args.operations.now c.operations.operation-index c.operation-item.result c.operations.first c.check_operation.new.first _ refl
    c.operations-test.true c.operation-item.is c.in_ok-check_operation.ensures c.operations.invariant

pub check_parts-parts-preserved : goal.check_parts-parts-preserved
check_parts-parts-preserved t c = record {
  route =
      step (λ ps. select_all (scope_at c.args.scope.now) c.parts.route (known_parts (scope_at c.args.scope.now) ps)) (λ ps. select_all (scope_at c.args.scope.now) c.select-route.result (known_parts (scope_at c.args.scope.now) ps))
      c.args.parts.now c.parts.part-index c.part-item.result _
      (ap (λ r. select_all (scope_at c.args.scope.now) r (known_parts (scope_at c.args.scope.now) (drop (c.parts.part-index + 1) c.args.parts.now))) (sym c.select-route.ensures))
      c.parts-test.true c.part-item.is c.parts.invariant.route;
  first =
      split_turn (λ ps. parts_faults (scope_at c.args.scope.now) c.parts.route (known_parts (scope_at c.args.scope.now) ps)) (λ ps. parts_faults (scope_at c.args.scope.now) c.select-route.result (known_parts (scope_at c.args.scope.now) ps))
      (part_faults (scope_at c.args.scope.now) c.parts.route (known_part (scope_at c.args.scope.now) c.part-item.result))
      c.args.parts.now c.parts.part-index c.part-item.result c.parts.first c.check_part.new.first _
      (ap (λ r. part_faults (scope_at c.args.scope.now) c.parts.route (known_part (scope_at c.args.scope.now) c.part-item.result) ++ parts_faults (scope_at c.args.scope.now) r (known_parts (scope_at c.args.scope.now) (drop (c.parts.part-index + 1) c.args.parts.now))) (sym c.select-route.ensures))
      c.parts-test.true c.part-item.is c.in_ok-check_part.ensures c.parts.invariant.first;
}

pub check_arguments-arguments-preserved : goal.check_arguments-arguments-preserved
check_arguments-arguments-preserved t c =
    split_turn (λ xs. arguments_faults c.args.callee.now c.args.whole c.arguments.number (known_arguments (scope_at c.args.scope.now) xs))
    (λ xs. arguments_faults c.args.callee.now c.args.whole (c.arguments.number + 1) (known_arguments (scope_at c.args.scope.now) xs))
    (argument_faults c.args.callee.now c.args.whole c.arguments.number (known_argument (scope_at c.args.scope.now) c.index-arguments-number.result))
    c.args.arguments.now c.arguments.number c.index-arguments-number.result c.arguments.first c.check_argument.new.first _ refl
    c.arguments-test.true c.index-arguments-number.is c.in_ok-check_argument.ensures c.arguments.invariant

-- ---- nodes

pub check_expression-returns : goal.check_expression-returns
check_expression-returns t c =
    due_done (scope_at c.args.scope.now) c.args.expression.now c.args.due c.position-position.result c.due_type-elem.result c.in_ok-fits.fits c.args.first.now c.check_at.new.first c.offer_when.new.self
    c.position-position.ensures c.due_type-elem.ensures c.in_ok-check_at.ensures c.in_ok-fits.ensures c.offer_when.ensures

pub check_at-returns-in_ok-route-in-Variable : goal.check_at-returns-in_ok-route-in-Variable
check_at-returns-in_ok-route-in-Variable t c =
    variable_done (scope_at c.args.scope.now) c.args.expression.now c.in-Variable.variable c.in_ok-route-in-Variable.route c.args.at c.args.due c.args.first.now c.check_variable.new.first c.check_misfit.new.first
    c.in-Variable.is c.in_ok-route-in-Variable.ensures.route c.in_ok-route-in-Variable.ensures.first c.check_misfit.ensures

pub check_at-returns-in_ok-check_operand-in-Negate : goal.check_at-returns-in_ok-check_operand-in-Negate
check_at-returns-in_ok-check_operand-in-Negate t c =
    negate_done (scope_at c.args.scope.now) c.args.expression.now c.in-Negate.operand c.get-in-Negate.result.now c.in-Negate.field-0 c.args.at c.args.due c.negates_due.result c.args.first.now c.check_operand.new.first c.offer_when.new.self
    c.in-Negate.is c.get-in-Negate.ensures c.in_ok-check_operand-in-Negate.ensures c.negates_due.ensures c.offer_when.ensures

pub check_at-returns-in_ok-check_operand-in-Not : goal.check_at-returns-in_ok-check_operand-in-Not
check_at-returns-in_ok-check_operand-in-Not t c =
    not_done (scope_at c.args.scope.now) c.args.expression.now c.in-Not.operand c.get-in-Not.result.now c.in-Not.field-0 c.args.at c.args.due c.complements_due.result c.args.first.now c.check_operand-in-Not.new.first c.offer_when-in-Not.new.self
    c.in-Not.is c.get-in-Not.ensures c.in_ok-check_operand-in-Not.ensures c.complements_due.ensures c.offer_when-in-Not.ensures

pub check_operand-returns : goal.check_operand-returns
check_operand-returns t c =
    here_done (scope_at c.args.scope.now) c.args.operand.now c.args.due c.position-position.result c.args.first.now c.check_at.new.first
    c.position-position.ensures c.in_ok-check_at.ensures

pub check_at-returns-in_ok-check_operations-in-Chain : goal.check_at-returns-in_ok-check_operations-in-Chain
check_at-returns-in_ok-check_operations-in-Chain t c =
    chain_done (scope_at c.args.scope.now) c.args.expression.now c.in-Chain.left c.get-in-Chain.result.now c.get-in-Chain-2.result.now c.in-Chain.operations c.as_slice-operations.result.now c.in-Chain.field-0 c.args.at c.args.due c.chain_type-operand_due.result c.further_type-further_due.result c.fits_chain.result
    c.args.first.now c.check_operand-in-Chain.new.first c.check_operations.new.first c.offer_when-in-Chain.new.self
    c.in-Chain.is c.get-in-Chain.ensures c.get-in-Chain-2.ensures c.as_slice-operations.ensures c.chain_type-operand_due.ensures c.further_type-further_due.ensures
    c.in_ok-check_operand-in-Chain.ensures c.in_ok-check_operations-in-Chain.ensures c.fits_chain.ensures c.offer_when-in-Chain.ensures

pub check_part-returns-in_ok-check_subscripts-in-Subscripts : goal.check_part-returns-in_ok-check_subscripts-in-Subscripts
check_part-returns-in_ok-check_subscripts-in-Subscripts t c =
    subscripts_done (scope_at c.args.scope.now) c.args.part.now c.args.route.now c.in-Subscripts.position c.in-Subscripts.subscripts c.as_slice.result.now c.len.result c.args.first.now c.check_count.new.first c.check_subscripts.new.first
    c.in-Subscripts.is c.len.ensures c.as_slice.ensures c.check_count.ensures c.in_ok-check_subscripts-in-Subscripts.ensures

pub check_target-returns-clause-first : goal.check_target-returns-clause-first
check_target-returns-clause-first t c =
    target_done (scope_at c.args.scope.now) (map (λ n. n.now) c.args.counters.now) c.args.variable.now c.in_ok-route.route c.is_kept-is_kept.result c.args.first.now c.check_variable.new.first c.check_whole.new.first c.offer_when.new.self
    c.in_ok-route.ensures.route c.in_ok-route.ensures.first c.check_whole.ensures c.is_kept-is_kept.ensures c.offer_when.ensures

pub check_call-returns : goal.check_call-returns
check_call-returns t c =
    call_done (scope_at c.args.scope.now) c.args.call.now c.as_slice.result.now c.callee-callee.result c.as_slice-arguments.result.now c.in_ok-rule.rule c.fits_call-fits.result c.args.at c.args.due
    c.args.first.now c.offer_broken.new.first c.check_arguments.new.first c.offer_when.new.self
    c.as_slice.ensures c.callee-callee.ensures c.as_slice-arguments.ensures c.in_ok-rule.ensures c.offer_broken.ensures (rw c.elem_due.ensures at c.in_ok-check_arguments.ensures) c.fits_call-fits.ensures c.offer_when.ensures
