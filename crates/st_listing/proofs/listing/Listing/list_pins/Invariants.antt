use Rattle.std.proofs.Common.{◌≡◌, ◌+◌, length, map, take}
use Rattle.std.specs.List.{flat_map}
use Rattle.st_types.specs.Pins.{seen}
use Rattle.st_leaves.specs.LeavesIn.{pin_leaf}
use Rattle.st_listing.specs.Listings.{listed}
use Rattle.st_listing.proofs.listing.Listing.list_pins.Given as goal

-- the pins so far
abbrev pub invariant-pins : goal.invariant-pins
invariant-pins l = record {
  pins : l.self ≡ listed l.initial.self (flat_map (pin_leaf l.of) (map seen (take l.pin-index l.pins)));
  count : length l.self.leaves ≡ length l.initial.self.leaves + l.pin-index;
}
