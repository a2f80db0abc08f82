use Rattle.std.proofs.Common.{◌≡◌, map, take}
use Rattle.st_types.specs.Inside.{named_by}
use Rattle.st_scopes.specs.UnitNames.{unit_names}
use Rattle.st_scopes.proofs.names.names_of.Given as goal

-- the names of the units so far
abbrev pub invariant-loop-unit : goal.invariant-loop-unit
invariant-loop-unit l = l.names.items ≡ map (λ u. unit_names l.types u.declares) (map named_by (take l.unit-index l.units))
