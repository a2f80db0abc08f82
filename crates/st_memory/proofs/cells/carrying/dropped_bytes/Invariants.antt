use Rattle.std.proofs.Common.{◌≡◌, ◌++◌, drop}
use Rattle.st_memory.specs.Moves.{saved_bytes}
use Rattle.st_memory.proofs.cells.carrying.dropped_bytes.Given as goal

-- the bytes so far, and those of the leaves that are left
abbrev pub invariant-loop-leaf : goal.invariant-loop-leaf
invariant-loop-leaf l = l.bytes.items ++ saved_bytes (drop l.leaf l.plan.targets) (drop l.leaf l.values) ≡ saved_bytes l.plan.targets l.values
