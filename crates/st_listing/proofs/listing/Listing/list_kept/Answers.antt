use Rattle.std.proofs.Common.{◌+◌, refl, arith}
use Rattle.st_types.specs.Pins.{seen_kept}
use Rattle.st_leaves.specs.LeavesIn.{kept_leaf}
use Rattle.st_listing.proofs.BlockListings.{kept_more, rows_count}
use Rattle.st_listing.proofs.listing.Listing.list_kept.Goals as goal

pub kept-preserved : goal.kept-preserved
kept-preserved c =
    let new = c.put_kept.new.self in
    let more = kept_more c.args.self.now c.kept.self new c.args.of.now c.args.kept.now c.kept.leaf-index _ c.zero_of.result c.kept-test.true c.kept.invariant.kept c.zero_of.ensures c.in_ok-put_kept.ensures in record {
      kept = more;
      count = rows_count (kept_leaf c.args.of.now) seen_kept (λ row. refl) c.args.self.now new c.args.kept.now (c.kept.leaf-index + 1) (omega (arith, c.kept-test.true)) more;
    }
