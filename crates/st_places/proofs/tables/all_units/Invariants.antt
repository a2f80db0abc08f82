use Rattle.std.proofs.Common.{◌≡◌, length}
use Rattle.st_places.specs.Members.{AreUnits}
use Rattle.st_types.specs.Names.{units_of}
use Rattle.st_places.proofs.tables.all_units.Given as goal

-- of the units so far
abbrev pub invariant-units : goal.invariant-units
invariant-units l = record {
  len : length l.units.items ≡ l.unit;
  each : AreUnits (units_of l.scopes) l.units.items;
}
