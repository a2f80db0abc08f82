use Rattle.std.proofs.Common.{◌≡◌, map, take}
use Rattle.st_references.specs.Tables.{written_by}
use Rattle.st_types.specs.Inside.{named_by}
use Rattle.st_references.proofs.types.types_written.Given as goal

-- of the units so far
abbrev pub invariant-each : goal.invariant-each
invariant-each l = l.all.items ≡ map written_by (map named_by (take l.unit-index l.units))
