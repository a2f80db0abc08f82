use Rattle.st_check_units.specs.Declarations.{item_faults}
use Rattle.st_faults.proofs.Offers.{turn}
use Rattle.st_check_units.proofs.values.check_items.Goals as goal

pub loop-item-preserved : goal.loop-item-preserved
loop-item-preserved c =
    turn (item_faults c.args.base) c.args.items.now c.loop-item.item-index c.item-item.result c.loop-item.first c.check_item.new.first _ c.loop-item-test.true c.item-item.is c.check_item.ensures c.loop-item.invariant
