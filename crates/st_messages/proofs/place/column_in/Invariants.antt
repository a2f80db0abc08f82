use Rattle.std.proofs.Common.{◌≡◌, ◌≤◌, ◌+◌, take}
use Rattle.std.specs.List.{sum_by}
use Rattle.st_messages.specs.Places.{character_begin}
use Rattle.st_messages.proofs.place.column_in.Given as goal

abbrev pub invariant-loop-byte : goal.invariant-loop-byte
invariant-loop-byte l = record {
  value : l.column ≡ 1 + sum_by character_begin (take l.byte-index l.line);
  small : l.column ≤ 1 + l.byte-index;
}
