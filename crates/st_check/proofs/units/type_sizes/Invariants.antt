use Rattle.std.proofs.Common.{◌≡◌, length, take}
use Rattle.std.specs.List.{All}
use Rattle.st_types.specs.Names.{units_of}
use Rattle.st_check.proofs.Tables.{HasSize}
use Rattle.st_check.proofs.units.type_sizes.Given as goal

-- the sizes of the units so far
abbrev pub invariant-units : goal.invariant-units
invariant-units l = record {
  len : length l.sizes.items ≡ length (units_of l.tables);
  sized : All (HasSize (units_of l.tables) l.sizes.items) (take l.unit-index l.order);
}
