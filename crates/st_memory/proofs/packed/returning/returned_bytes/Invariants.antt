use Rattle.std.proofs.Common.{◌≤◌, ◌-◌}
use Rattle.st_memory.specs.Packed.{decoded}
use Rattle.st_memory.proofs.Unpacked.{IsUnpacked}
use Rattle.st_memory.proofs.packed.returning.returned_bytes.Given as goal

-- the bytes of the leaves before a place; those of the dropped leaves that are left begin at `start`
abbrev pub invariant-loop-place : goal.invariant-loop-place
invariant-loop-place l = record {
  within : l.place ≤ l.count;
  bytes : IsUnpacked l.old l.plan.targets (decoded l.new l.bytes) l.saved l.place l.start l.returned.items;
}

abbrev pub decreases-loop-place : goal.decreases-loop-place
decreases-loop-place l = l.count - l.place

abbrev pub invariant-loop-leaf : goal.invariant-loop-leaf
invariant-loop-leaf l = IsUnpacked l.old l.plan.targets (decoded l.new l.bytes) l.saved l.leaf l.start l.returned.items
