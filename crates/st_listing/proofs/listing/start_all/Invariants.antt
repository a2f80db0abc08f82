use Rattle.std.proofs.Common.{◌≡◌, ◌++◌, drop, map, take}
use Rattle.st_listing.specs.Walks.{begins_with}
use Rattle.st_listing.proofs.listing.start_all.Given as goal

-- the leaves so far
abbrev pub invariant-leaves : goal.invariant-leaves
invariant-leaves l = l.leaf-items ≡ map (begins_with l.constant) (take l.leaf-index l.initial.leaf-items) ++ drop l.leaf-index l.initial.leaf-items
