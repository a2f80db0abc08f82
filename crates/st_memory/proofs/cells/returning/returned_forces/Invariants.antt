use Rattle.std.proofs.Common.{◌≡◌, take}
use Rattle.st_memory.specs.Moves.{unmoved_forced}
use Rattle.st_memory.proofs.cells.returning.returned_forces.Given as goal

-- the forces that the numbers so far give back
abbrev pub invariant-loop-number : goal.invariant-loop-number
invariant-loop-number l = l.returned.items ≡ unmoved_forced l.forced 0 l.plan.targets (take l.number-index l.numbers)
