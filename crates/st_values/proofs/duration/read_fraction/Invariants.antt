use Rattle.std.proofs.Common.{◌≡◌, ◌<◌, drop, Some}
use Rattle.st_values.proofs.FractionLemmas.{share}
use Rattle.st_values.specs.Durations.{milliseconds_of}
use Rattle.st_values.proofs.duration.read_fraction.Given as goal

-- the share of the digits from the last one to here
abbrev pub invariant-loop-i : goal.invariant-loop-i
invariant-loop-i l = record {
  small : l.share < l.whole;
  whole : l.whole ≡ milliseconds_of l.fn.unit;
  told : share l.whole (drop l.i l.digits) ≡ Some l.share;
}
