use Rattle.std.proofs.Common.{◌≡◌, ◌++◌, map, take}
use Rattle.st_types.specs.Inside.{named_by, type_unit}
use Rattle.st_types.proofs.unit.add_types.Given as goal

-- the types so far are added
abbrev pub invariant-loop-declaration : goal.invariant-loop-declaration
invariant-loop-declaration l = map named_by l.units.items ≡ map named_by l.initial.units.items ++ map type_unit (take l.declaration-index l.declarations)
