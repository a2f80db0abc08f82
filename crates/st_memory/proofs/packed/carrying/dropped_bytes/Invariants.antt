use Rattle.std.proofs.Common.{◌≡◌, ◌≤◌, ◌++◌, ◌-◌, drop}
use Rattle.st_memory.specs.Moves.{saved_bytes}
use Rattle.st_memory.specs.Packed.{decoded}
use Rattle.st_memory.proofs.packed.carrying.dropped_bytes.Given as goal

-- the bytes so far, and those of the leaves that are left
abbrev pub invariant-loop-place : goal.invariant-loop-place
invariant-loop-place l = record {
  within : l.place ≤ l.count;
  bytes : l.dropped.items ++ saved_bytes (drop l.place l.plan.targets) (drop l.place (decoded l.old l.bytes)) ≡ saved_bytes l.plan.targets (decoded l.old l.bytes);
}

abbrev pub decreases-loop-place : goal.decreases-loop-place
decreases-loop-place l = l.count - l.place
