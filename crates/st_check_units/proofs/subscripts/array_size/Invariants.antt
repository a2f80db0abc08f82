use Rattle.std.proofs.Common.{◌≡◌, ◌<◌, ◌^◌, Some, drop}
use Rattle.st_check_units.specs.Counted.{counted}
use Rattle.st_check_units.specs.Subscripts.{array_size, product as times}
use Rattle.st_check_units.proofs.subscripts.array_size.Given as goal

-- what is left multiplies the size so far to that of all
abbrev pub invariant-loop-range : goal.invariant-loop-range
invariant-loop-range l = record {
  product : counted (times (Some l.size) (array_size (drop l.range-index l.ranges))) ≡ counted (array_size l.ranges);
  small : l.size < 2 ^ 128;
}
