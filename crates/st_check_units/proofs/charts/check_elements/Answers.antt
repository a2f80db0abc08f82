use Rattle.st_types.specs.Scopes.{scope_at}
use Rattle.st_check_units.specs.Charts.{element_faults}
use Rattle.st_faults.proofs.Offers.{turn}
use Rattle.st_check_units.proofs.charts.check_elements.Goals as goal

pub loop-element-preserved : goal.loop-element-preserved
loop-element-preserved c =
    turn (element_faults (scope_at c.args.scope.now)) c.args.elements.now c.loop-element.element-index c.element-item.result c.loop-element.first c.check_element.new.first _ c.loop-element-test.true c.element-item.is c.in_ok-check_element.ensures c.loop-element.invariant
