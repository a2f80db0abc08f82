use Rattle.std.proofs.Common.{◌≡◌, map, take}
use Rattle.std.specs.List.{flat_map}
use Rattle.st_types.specs.Inside.{named_by}
use Rattle.st_types.specs.Names.{units_in}
use Rattle.st_types.proofs.unit.units_of.Given as goal

-- the units of the sections so far
abbrev pub invariant-loop-unit : goal.invariant-loop-unit
invariant-loop-unit l = map named_by l.units.items ≡ flat_map units_in (take l.unit-index l.text)
