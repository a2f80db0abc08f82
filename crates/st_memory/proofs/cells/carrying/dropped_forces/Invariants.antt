use Rattle.std.proofs.Common.{◌≡◌, ◌++◌, drop}
use Rattle.st_memory.specs.Moves.{saved_forced}
use Rattle.st_memory.proofs.cells.carrying.dropped_forces.Given as goal

-- the numbers so far, and those of the leaves that are left
abbrev pub invariant-loop-leaf : goal.invariant-loop-leaf
invariant-loop-leaf l = l.numbers.items ++ saved_forced l.leaf (drop l.leaf l.plan.targets) (drop l.leaf l.forced) ≡ saved_forced 0 l.plan.targets l.forced
