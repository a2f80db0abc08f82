use Rattle.std.proofs.Common.{◌≡◌, length, take}
use Rattle.st_memory.specs.Moves.{unmoved_forced}
use Rattle.st_memory.specs.Packed.{mark_bytes, marked}
use Rattle.st_memory.proofs.packed.returning.returned_marks.Given as goal

-- the marks that the numbers so far give back
abbrev pub invariant-loop-number : goal.invariant-loop-number
invariant-loop-number l = record {
  count : length l.returned.items ≡ mark_bytes (length l.old);
  marks : marked (length l.old) l.returned.items ≡ unmoved_forced (marked (length l.new) l.marks) 0 l.plan.targets (take l.number-index l.numbers);
}
