use Rattle.std.proofs.Common.{◌≡◌, drop, map}
use Rattle.st_faults.specs.Faults.{offer_all}
use Rattle.st_types.specs.Inside.{named_by}
use Rattle.st_check_units.specs.Units.{names_faults}
use Rattle.st_check_units.proofs.units.check_unit_names.Given as goal

-- what is left gives what all give
abbrev pub invariant-loop-unit : goal.invariant-loop-unit
invariant-loop-unit l = offer_all l.first (names_faults l.seen (map named_by (drop l.unit-index l.units))) ≡ offer_all l.initial.first (names_faults l.initial.seen (map named_by l.units))
