use Rattle.std.proofs.Common.{◌≡◌, map, take}
use Rattle.st_memory.proofs.cells.initial_values.Given as goal

abbrev pub invariant-loop-leaf : goal.invariant-loop-leaf
invariant-loop-leaf l = l.values.items ≡ map (λ leaf. leaf.initial) (take l.leaf l.layout)
