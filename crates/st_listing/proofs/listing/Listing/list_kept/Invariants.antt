use Rattle.std.proofs.Common.{◌≡◌, ◌+◌, length, map, take}
use Rattle.std.specs.List.{flat_map}
use Rattle.st_types.specs.Pins.{seen_kept}
use Rattle.st_leaves.specs.LeavesIn.{kept_leaf}
use Rattle.st_listing.specs.Listings.{listed}
use Rattle.st_listing.proofs.listing.Listing.list_kept.Given as goal

-- what is kept so far
abbrev pub invariant-kept : goal.invariant-kept
invariant-kept l = record {
  kept : l.self ≡ listed l.initial.self (flat_map (kept_leaf l.of) (map seen_kept (take l.leaf-index l.kept)));
  count : length l.self.leaves ≡ length l.initial.self.leaves + l.leaf-index;
}
