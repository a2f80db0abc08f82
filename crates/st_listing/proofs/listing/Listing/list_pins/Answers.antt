use Rattle.std.proofs.Common.{◌+◌, refl, arith}
use Rattle.st_types.specs.Pins.{seen}
use Rattle.st_leaves.specs.LeavesIn.{pin_leaf}
use Rattle.st_listing.proofs.BlockListings.{pins_more, rows_count}
use Rattle.st_listing.proofs.listing.Listing.list_pins.Goals as goal

pub pins-preserved : goal.pins-preserved
pins-preserved c =
    let new = c.put.new.self in
    let more = pins_more c.args.self.now c.pins.self new c.args.of.now c.args.pins.now c.pins.pin-index _ c.zero_of.result c.pins-test.true c.pins.invariant.pins c.zero_of.ensures c.in_ok-put.ensures in record {
      pins = more;
      count = rows_count (pin_leaf c.args.of.now) seen (λ row. refl) c.args.self.now new c.args.pins.now (c.pins.pin-index + 1) (omega (arith, c.pins-test.true)) more;
    }
