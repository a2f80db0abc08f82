use Rattle.std.proofs.Common.{◌≡◌, take}
use Rattle.st_leaves.specs.LeavesIn.{all_steps_in}
use Rattle.st_listing.specs.Listings.{AreWays, listed}
use Rattle.st_listing.proofs.listing.Listing.list_steps.Given as goal

-- the steps so far
abbrev pub invariant-steps : goal.invariant-steps
invariant-steps l = record {
  listed : l.self ≡ listed l.initial.self (all_steps_in l.of 1 (take l.step-index l.steps));
  ways : AreWays (all_steps_in l.of 1 (take l.step-index l.steps));
}
