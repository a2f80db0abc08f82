use Rattle.std.proofs.Common.{◌≤◌, ◌-◌, length}
use Rattle.st_memory.specs.Moves.{moved_force}
use Rattle.st_memory.specs.Packed.{marked}
use Rattle.st_layout.specs.Pairs.{number_at}
use Rattle.st_memory.proofs.Bits.{AreMarked}
use Rattle.st_memory.proofs.packed.marks.moved_marks.Given as goal

-- the marks of the leaves before a place
abbrev pub invariant-loop-place : goal.invariant-loop-place
invariant-loop-place l = record {
  within : l.place ≤ l.count;
  marks : AreMarked (length l.numbers) l.place (λ i. moved_force (marked (length l.layout) l.marks) (number_at l.numbers i)) l.moved.items;
}

abbrev pub decreases-loop-place : goal.decreases-loop-place
decreases-loop-place l = l.count - l.place
