use Rattle.std.proofs.Common.{◌∙◌}
use Rattle.st_types.specs.Inside.{named_by}
use Rattle.st_scopes.specs.UnitNames.{unit_names}
use Rattle.st_scopes.proofs.NamesInOrder.{mapped_more}
use Rattle.st_scopes.proofs.names.names_of.Goals as goal

pub loop-unit-preserved : goal.loop-unit-preserved
loop-unit-preserved c = c.in_ok-push.ensures.items
    ∙ mapped_more (λ u. unit_names c.args.types.now u.declares) named_by c.units-units.result.now c.loop-unit.unit-index c.unit-item.result _ c.loop-unit.names.items
    c.loop-unit-test.true c.unit-item.is c.loop-unit.invariant c.in_ok-of_unit.ensures
