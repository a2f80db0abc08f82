use Rattle.std.proofs.Common.{◌≡◌, ◌≤◌, suc, length, map, take}
use Rattle.st_types.specs.Names.{units_of}
use Rattle.st_references.specs.Tables.{written_at}
use Rattle.st_references.proofs.Known.{Knows}
use Rattle.st_references.proofs.table.sources_of.Given as goal

-- the initial values of the units so far
abbrev pub invariant-units : goal.invariant-units
invariant-units l = record {
  within : l.unit-index ≤ length l.order;
  len : length l.types.items ≡ length (units_of l.tables);
  known : Knows (units_of l.tables) (take l.unit-index l.order) (suc l.unit-index) (map (written_at l.written) l.types.items);
}
