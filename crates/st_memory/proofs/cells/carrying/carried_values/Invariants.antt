use Rattle.std.proofs.Common.{◌≡◌, map, take}
use Rattle.std.specs.List.{zip}
use Rattle.st_memory.specs.Moves.{moved_pair}
use Rattle.st_memory.proofs.cells.carrying.carried_values.Given as goal

-- the values of the leaves so far
abbrev pub invariant-loop-leaf : goal.invariant-loop-leaf
invariant-loop-leaf l = l.carried.items ≡ map (moved_pair l.plan.sources l.values) (take l.leaf (zip l.new l.plan.sources))
