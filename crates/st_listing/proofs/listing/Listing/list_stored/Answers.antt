use Rattle.std.proofs.Common.{◌+◌, sym, take}
use Rattle.std.specs.List.{flat_map}
use Rattle.st_leaves.specs.LeavesIn.{stored_in}
use Rattle.st_leaves.specs.Charts.{spelled}
use Rattle.st_listing.proofs.ChartListings.{stored_room, stored_split}
use Rattle.st_listing.proofs.Listings.{listed_more, ways_more}
use Rattle.st_listing.proofs.listing.Listing.list_stored.Goals as goal

pub list_action-requires : goal.list_action-requires
list_action-requires c = record {
  room = stored_room c.args.self.now c.stored.self c.args.of.now c.args.stored.now c.stored.name-index c.stored-test.true c.stored.invariant.names c.requires.room;
}

pub stored-preserved : goal.stored-preserved
stored-preserved c =
    let before = flat_map (stored_in c.args.of.now) (spelled (take c.stored.name-index c.args.stored.now)) in
    let one = stored_in c.args.of.now c.name-item.result.now in
    let after = flat_map (stored_in c.args.of.now) (spelled (take (c.stored.name-index + 1) c.args.stored.now)) in
    let split = stored_split c.args.of.now c.args.stored.now c.stored.name-index c.name-item.result c.stored-test.true (sym c.name-item.is) in record {
      names = listed_more c.args.self.now c.stored.self c.list_action.new.self before one after split c.stored.invariant.names c.in_ok-list_action.ensures.listed;
      ways = ways_more before one after split c.stored.invariant.ways c.in_ok-list_action.ensures.ways;
    }
