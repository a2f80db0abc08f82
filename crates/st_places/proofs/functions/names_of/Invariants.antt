use Rattle.std.proofs.Common.{◌≡◌, map, take}
use Rattle.st_types.specs.declared.unit.NamedUnit.{NamedUnit}
use Rattle.st_places.proofs.functions.names_of.Given as goal

-- of the units so far
abbrev pub invariant-loop-unit : goal.invariant-loop-unit
invariant-loop-unit l = l.names ≡ map (λ (unit : NamedUnit). unit.name.now.spelling) (take l.unit-index l.unit-items)
