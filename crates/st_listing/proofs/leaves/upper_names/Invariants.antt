use Rattle.std.proofs.Common.{◌≡◌, map, take}
use Rattle.st_types.specs.Inside.{named_by}
use Rattle.st_values.specs.Words.{raised}
use Rattle.st_listing.proofs.leaves.upper_names.Given as goal

-- of the units so far
abbrev pub invariant-each : goal.invariant-each
invariant-each l = l.names.items ≡ map (λ u. raised u.name.spelling) (map named_by (take l.unit-index l.units))
