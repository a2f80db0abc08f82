use Rattle.st_types.specs.Names.{units_of}
use Rattle.st_types.specs.Inside.{declared_by}
use Rattle.st_check_units.specs.Declarations.{block_faults}
use Rattle.st_faults.proofs.Offers.{turn}
use Rattle.st_check_units.proofs.declarations.check_blocks.Goals as goal

pub loop-block-preserved : goal.loop-block-preserved
loop-block-preserved c =
    turn (block_faults (units_of c.args.types.now) (declared_by c.args.unit)) c.args.blocks.now c.loop-block.block-index c.block-item.result c.loop-block.first c.check_block.new.first _ c.loop-block-test.true c.block-item.is c.check_block.ensures c.loop-block.invariant
