use Rattle.std.proofs.Common.{◌≡◌, ◌++◌, drop, length}
use Rattle.st_memory.specs.Moves.{saved_forced}
use Rattle.st_memory.specs.Packed.{marked}
use Rattle.st_memory.proofs.packed.carrying.dropped_marks.Given as goal

-- the numbers so far, and those of the leaves that are left
abbrev pub invariant-loop-leaf : goal.invariant-loop-leaf
invariant-loop-leaf l = l.numbers.items ++ saved_forced l.leaf (drop l.leaf l.plan.targets) (drop l.leaf (marked (length l.old) l.marks)) ≡ saved_forced 0 l.plan.targets (marked (length l.old) l.marks)
