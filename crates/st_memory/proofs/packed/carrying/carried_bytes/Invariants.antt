use Rattle.std.proofs.Common.{◌≡◌, ◌≤◌, ◌-◌, map, take}
use Rattle.std.specs.List.{zip}
use Rattle.st_memory.specs.Moves.{moved_pair}
use Rattle.st_memory.specs.Packed.{decoded, encoded}
use Rattle.st_memory.proofs.packed.carrying.carried_bytes.Given as goal

-- the bytes of the leaves before a place
abbrev pub invariant-loop-place : goal.invariant-loop-place
invariant-loop-place l = record {
  within : l.place ≤ l.count;
  bytes : l.carried.items ≡ encoded (map (moved_pair l.plan.sources (decoded l.old l.bytes)) (take l.place (zip l.new l.plan.sources)));
}

abbrev pub decreases-loop-place : goal.decreases-loop-place
decreases-loop-place l = l.count - l.place

abbrev pub invariant-loop-leaf : goal.invariant-loop-leaf
invariant-loop-leaf l = l.carried.items ≡ encoded (map (moved_pair l.plan.sources (decoded l.old l.bytes)) (take l.leaf (zip l.new l.plan.sources)))
