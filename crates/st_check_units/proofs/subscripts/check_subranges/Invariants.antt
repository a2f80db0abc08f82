use Rattle.std.proofs.Common.{◌≡◌, drop}
use Rattle.std.specs.List.{flat_map}
use Rattle.st_faults.specs.Faults.{offer_all}
use Rattle.st_check_units.specs.Subscripts.{subrange_faults}
use Rattle.st_check_units.proofs.subscripts.check_subranges.Given as goal

-- what is left gives what all give
abbrev pub invariant-loop-range : goal.invariant-loop-range
invariant-loop-range l = offer_all l.first (flat_map subrange_faults (drop l.range-index l.ranges)) ≡ offer_all l.initial.first (flat_map subrange_faults l.ranges)
