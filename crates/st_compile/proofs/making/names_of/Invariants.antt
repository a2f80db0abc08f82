use Rattle.std.proofs.Common.{◌≡◌, map, take}
use Rattle.st_check.specs.Programs.{text_of}
use Rattle.st_types.specs.Names.{Named, units_of}
use Rattle.st_compile.proofs.making.names_of.Given as goal

-- the names so far
abbrev pub invariant-units : goal.invariant-units
invariant-units l = l.names.items ≡ map (λ (u : Named). u.name.spelling) (take l.unit-index (units_of (text_of l.program)))
