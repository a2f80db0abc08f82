use Rattle.std.proofs.Common.{◌≡◌, take}
use Rattle.std.specs.List.{flat_map}
use Rattle.st_leaves.specs.LeavesIn.{stored_in}
use Rattle.st_leaves.specs.Charts.{spelled}
use Rattle.st_listing.specs.Listings.{AreWays, listed}
use Rattle.st_listing.proofs.listing.Listing.list_stored.Given as goal

-- the names so far
abbrev pub invariant-stored : goal.invariant-stored
invariant-stored l = record {
  names : l.self ≡ listed l.initial.self (flat_map (stored_in l.of) (spelled (take l.name-index l.stored)));
  ways : AreWays (flat_map (stored_in l.of) (spelled (take l.name-index l.stored)));
}
