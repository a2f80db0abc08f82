use Rattle.std.proofs.Common.{◌≡◌, ◌≤◌, ◌++◌, drop, length}
use Rattle.st_memory.specs.Moves.{HoldsValues, unmoved_values}
use Rattle.st_memory.proofs.cells.returning.returned_values.Given as goal

-- the values so far, and those of the leaves that are left, whose bytes begin at `start`
abbrev pub invariant-loop-leaf : goal.invariant-loop-leaf
invariant-loop-leaf l = record {
  within : l.start ≤ length l.bytes;
  holds : HoldsValues (drop l.leaf l.old) (drop l.leaf l.plan.targets) (drop l.start l.bytes);
  values : l.returned.items ++ unmoved_values l.values (drop l.leaf l.old) (drop l.leaf l.plan.targets) (drop l.start l.bytes) ≡ unmoved_values l.values l.old l.plan.targets l.bytes;
}
