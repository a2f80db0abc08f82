use Rattle.std.proofs.Common.{◌≡◌, ◌++◌, ◌+◌, ◌-◌, ◌<◌, ◌≤◌, ◌^◌, drop, true}
use Rattle.std.specs.Fmt.{digits}
use Rattle.st_values.proofs.Laid.{with_rest}
use Rattle.st_values.proofs.put.lay_digits.Given as goal

-- the digits laid so far, with the digits of what is left of the number
abbrev pub invariant-loop-number : goal.invariant-loop-number
invariant-loop-number l = record {
  below : l.start < l.end;
  near : l.end ≤ l.start + l.places;
  small : l.number < 10 ^ (l.start + l.places - l.end);
  laid : with_rest (64 - (l.end - l.start)) l.base l.number (drop l.start l.buffer) ≡ digits l.base true l.fn.number ++ drop l.end l.fn.buffer;
}

abbrev pub decreases-loop-number : goal.decreases-loop-number
decreases-loop-number l = l.number
