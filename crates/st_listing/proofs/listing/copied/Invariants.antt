use Rattle.std.proofs.Common.{◌≡◌, map, take}
use Rattle.st_listing.proofs.listing.copied.Given as goal

-- the names so far
abbrev pub invariant-names : goal.invariant-names
invariant-names l = l.items.items ≡ map (λ name. name.now) (take l.name-index l.names)
