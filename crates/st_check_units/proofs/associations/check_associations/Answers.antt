use Rattle.st_types.specs.Scopes.{scope_at}
use Rattle.st_check_units.specs.Charts.{association_faults}
use Rattle.st_faults.proofs.Offers.{turn}
use Rattle.st_check_units.proofs.associations.check_associations.Goals as goal

pub loop-association-preserved : goal.loop-association-preserved
loop-association-preserved c =
    turn (association_faults (scope_at c.args.scope.now)) c.args.associations.now c.loop-association.association-index c.association-item.result c.loop-association.first c.check_association.new.first _ c.loop-association-test.true c.association-item.is c.check_association.ensures c.loop-association.invariant
