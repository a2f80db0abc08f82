use Rattle.st_check_units.proofs.UnitSizes.{sizes_done}
use Rattle.st_check_units.proofs.sizes.TextTypes.new.Goals as goal

pub invariant_of-result : goal.invariant_of-result
invariant_of-result c = sizes_done c.units-units.result.now c.loop-unit.unit-index c.loop-unit.sizes.items _ c.units-units.ensures c.loop-unit-test.false c.loop-unit.invariant
