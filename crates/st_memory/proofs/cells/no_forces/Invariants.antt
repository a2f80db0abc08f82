use Rattle.std.proofs.Common.{◌≡◌, false, replicate}
use Rattle.st_memory.proofs.cells.no_forces.Given as goal

abbrev pub invariant-loop-leaf : goal.invariant-loop-leaf
invariant-loop-leaf l = l.forced.items ≡ replicate l._leaf false
