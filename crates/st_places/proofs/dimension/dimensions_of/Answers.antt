use Rattle.std.proofs.Common.{◌-◌, ◌≤◌, arith, subst, sym}
use Rattle.st_leaves.specs.Places.{extent_of}
use Rattle.st_places.proofs.Dimensions.{AreBehind, behind_more}
use Rattle.st_places.proofs.dimension.dimensions_of.Goals as goal

pub dimensions-preserved : goal.dimensions-preserved
dimensions-preserved c =
    let range = c.index-ranges-left.result in
    let most : c.product-count.result ≤ 1000000 =
    omega (arith, c.product-count.ensures (extent_of range) c.dimensions.count c.extent_of.ensures (omega (arith, c.dimensions.invariant.most))) in
    subst (λ items. AreBehind c.args.element c.args.ranges.now (c.dimensions.left - 1) items c.product-count.result) (sym c.in_ok-push.ensures.items)
    (behind_more c.args.element c.args.ranges.now (c.dimensions.left - 1) c.dimensions.left c.dimensions.items.items c.dimensions.count c.product-count.result range range c.dimension.result
    c.dimensions.invariant (omega (arith, c.dimensions-test.true)) c.index-ranges-left.is most c.dimension.ensures (λ n is. c.product-count.ensures (extent_of range) n c.extent_of.ensures is))
