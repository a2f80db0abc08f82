use Rattle.std.proofs.Common.{◌≡◌, map, take}
use Rattle.st_types.specs.Inside.{named_by}
use Rattle.st_types.specs.Links.{names_of}
use Rattle.st_types.proofs.types.names_of.Given as goal

-- the names of the units so far
abbrev pub invariant-loop-unit : goal.invariant-loop-unit
invariant-loop-unit l = l.names ≡ names_of (map named_by (take l.unit-index l.units))
