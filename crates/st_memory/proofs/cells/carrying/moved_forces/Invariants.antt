use Rattle.std.proofs.Common.{◌≡◌, map, take}
use Rattle.st_memory.specs.Moves.{moved_force}
use Rattle.st_memory.proofs.cells.carrying.moved_forces.Given as goal

-- the forces of the leaves so far
abbrev pub invariant-loop-leaf : goal.invariant-loop-leaf
invariant-loop-leaf l = l.moved.items ≡ map (moved_force l.forced) (take l.leaf l.numbers)
