use Rattle.std.proofs.Common.{◌&&◌, length, arith, sym, ◌∙◌, ap, refl}
use Rattle.std.specs.List.{list_all}
use Rattle.st_charts.specs.Charts.{active_in}
use Rattle.st_charts.proofs.ClearingLemmas.{are_cleared, are_left, cleared_none, cleared_step}
use Rattle.st_charts.proofs.clearing.clear.Goals as goal
use Rattle.st_charts.proofs.clearing.clear.Goals.{else-conditions-number, else-is_cleared, then-conditions-number, then-is_cleared}

pub transitions-init : goal.transitions-init
transitions-init c = cleared_none _ _ _ _

pub transitions-preserved : goal.transitions-preserved
transitions-preserved c =
    cleared_step c.args.table.now c.deref-number-items.result.now c.transitions.number-index c.args.steps.now c.transitions.steps c.if-is_cleared.steps
    c.args.conditions.now c.transitions.conditions c.index.result.now c.as_slice-before.result.now c.if-conditions-number.is_cleared
    c.deref-number-items.ensures.value c.transitions-test.true c.requires.steps c.requires.conditions c.transitions.auto.steps
    c.index.ensures c.as_slice-before.ensures.value
    (elim c.if-conditions-number.branch [
      | then-conditions-number w ↦
          w.is_cleared-is ∙ w.are_active-is_cleared.ensures
          ∙ ap (λ b. b && list_all (active_in c.transitions.steps) c.as_slice-before.result.now) (sym w.if-conditions-number.true)
      | else-conditions-number w ↦
          w.is_cleared-is ∙ w.if-conditions-number.false
          ∙ ap (λ b. b && list_all (active_in c.transitions.steps) c.as_slice-before.result.now) (sym w.if-conditions-number.false)
    ])
    (elim c.if-is_cleared.branch [
      | then-is_cleared w ↦ rw (w.steps-is, w.if-is_cleared.true) w.leave.ensures
      | else-is_cleared w ↦ rw (w.steps-is, w.if-is_cleared.false) (λ n d lt. refl)
    ])
    c.transitions.invariant

pub returns-clause-cleared : goal.returns-clause-cleared
returns-clause-cleared c =
    are_cleared _ _ c.args.table.now.ordered _ (omega (arith, c.transitions-test.false, ap length c.deref-number-items.ensures.value)) _ _ _ _ c.transitions.invariant

pub returns-clause-left : goal.returns-clause-left
returns-clause-left c =
    are_left _ _ c.args.table.now.ordered _ (omega (arith, c.transitions-test.false, ap length c.deref-number-items.ensures.value)) _ _ _ _ c.transitions.invariant
