use Rattle.std.proofs.Common.{◌≡◌, map, take}
use Rattle.st_types.specs.Names.{units_of}
use Rattle.st_listing.specs.Members.{member_of}
use Rattle.st_listing.proofs.members.unit_members.Given as goal

-- the names so far
abbrev pub invariant-rows : goal.invariant-rows
invariant-rows l = l.items.items ≡ map (member_of (units_of l.tables)) (take l.row-index l.rows)
