use Rattle.std.proofs.Common.{ℕ, ◌≡◌, ◌+◌, ◌<◌, ◌≤◌}
use Rattle.st_memory.specs.Packed.{mark_at}
use Rattle.st_memory.proofs.packed.marks.copy_marks.Given as goal

-- the marks so far are copied, and no others
abbrev pub invariant-loop-k : goal.invariant-loop-k
invariant-loop-k l = record {
  run : (k : ℕ) → k < l.k → mark_at l.to (l.run.first + k) ≡ mark_at l.marks (l.run.to + k);
  before : (i : ℕ) → i < l.run.first → mark_at l.to i ≡ mark_at l.fn.to i;
  behind : (i : ℕ) → l.run.first + l.k ≤ i → mark_at l.to i ≡ mark_at l.fn.to i;
}
