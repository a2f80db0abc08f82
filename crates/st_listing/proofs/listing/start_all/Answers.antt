use Rattle.st_listing.proofs.Walks.{start_next}
use Rattle.st_listing.proofs.listing.start_all.Goals as goal

pub leaves-preserved : goal.leaves-preserved
leaves-preserved c = start_next c.args.constant.now c.args.leaves.now c.leaves.leaf-items c.leaves.leaf-index c.leaf-item.result c.value_written-initial.result c.leaves.invariant c.leaves-test.true c.value_written-initial.ensures.value
