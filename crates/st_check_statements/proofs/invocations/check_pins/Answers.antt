use Rattle.st_types.specs.Scopes.{scope_at}
use Rattle.st_check_expressions.specs.Walk.{known_argument}
use Rattle.st_check_statements.specs.Invocations.{pin_faults}
use Rattle.st_faults.proofs.Offers.{known_turn}
use Rattle.st_check_statements.proofs.invocations.check_pins.Goals as goal

pub arguments-preserved : goal.arguments-preserved
arguments-preserved c =
    known_turn (pin_faults (scope_at c.args.scope.now) c.args.base c.args.around.now.counters) (known_argument (scope_at c.args.scope.now)) c.args.arguments.now c.arguments.argument-index c.argument-item.result
    c.arguments.first c.check_pin.new.first _ c.arguments-test.true c.argument-item.is c.in_ok-check_pin.ensures c.arguments.invariant
