use Rattle.std.proofs.Common.{◌≡◌, drop}
use Rattle.std.specs.List.{flat_map}
use Rattle.st_faults.specs.Faults.{offer_all}
use Rattle.st_check_units.proofs.TextUnits.{unit_at_faults}
use Rattle.st_check_units.proofs.units.check_each_unit.Given as goal

-- what is left gives what all give
abbrev pub invariant-loop-number : goal.invariant-loop-number
invariant-loop-number l = offer_all l.first (flat_map (unit_at_faults l.types) (drop l.number l.units)) ≡ offer_all l.initial.first (flat_map (unit_at_faults l.types) l.units)
