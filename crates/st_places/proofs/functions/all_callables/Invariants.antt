use Rattle.std.proofs.Common.{◌≡◌, length}
use Rattle.st_places.specs.Callables.{AreCallable}
use Rattle.st_types.specs.Names.{units_of}
use Rattle.st_places.proofs.functions.all_callables.Given as goal

-- of the units so far
abbrev pub invariant-units : goal.invariant-units
invariant-units l = record {
  len : length l.units.items ≡ l.number;
  each : AreCallable (units_of l.tables) l.units.items;
}
