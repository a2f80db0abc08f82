use Rattle.std.proofs.Common.{◌≡◌, map, take}
use Rattle.st_memory.specs.Packed.{encoded}
use Rattle.st_memory.proofs.packed.initial_bytes.Given as goal

-- the bytes of the leaves so far
abbrev pub invariant-loop-leaf : goal.invariant-loop-leaf
invariant-loop-leaf l = l.bytes.items ≡ encoded (map (λ leaf. leaf.initial) (take l.leaf l.layout))
