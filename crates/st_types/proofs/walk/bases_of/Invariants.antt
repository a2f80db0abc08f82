use Rattle.std.proofs.Common.{◌≡◌, ℕ, ◌<◌, []}
use Rattle.st_types.specs.Walks.{AreMarked, IsMet}
use Rattle.st_types.proofs.walk.bases_of.Given as goal

-- the types of the units so far are known
abbrev pub invariant-loop-unit : goal.invariant-loop-unit
invariant-loop-unit l = record {
  marked : AreMarked l.links l.marks.items l.path.items;
  empty : l.path.items ≡ [];
  met : (i : ℕ) → i < l.unit → IsMet l.marks.items i;
}
