use Rattle.std.proofs.Common.{◌≡◌, ◌≤◌, ◌+◌, take}
use Rattle.std.specs.List.{sum_by}
use Rattle.st_messages.specs.Places.{line_end}
use Rattle.st_messages.proofs.place.line_after.Given as goal

abbrev pub invariant-loop-byte : goal.invariant-loop-byte
invariant-loop-byte l = record {
  value : l.line ≡ 1 + sum_by line_end (take l.byte-index l.before);
  small : l.line ≤ 1 + l.byte-index;
}
