use Rattle.std.proofs.Common.{◌≡◌, map, take}
use Rattle.st_types.specs.Names.{units_of}
use Rattle.st_listing.specs.Members.{member_of}
use Rattle.st_listing.proofs.members.members_of.Given as goal

-- of the units so far
abbrev pub invariant-units : goal.invariant-units
invariant-units l = l.members.items ≡ map (map (member_of (units_of l.tables))) (take l.unit-index l.rows)
