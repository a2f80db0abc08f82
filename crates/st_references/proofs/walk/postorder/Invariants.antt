use Rattle.std.proofs.Common.{ℕ, [], ◌<◌}
use Rattle.st_references.specs.Walks.{IsSeen, IsWalk}
use Rattle.st_references.proofs.walk.postorder.Given as goal

abbrev pub invariant-rows : goal.invariant-rows
invariant-rows l = record {
  walk : IsWalk l.graph [] l.seen.items l.order.items;
  seen : (a : ℕ) → a < l.row → IsSeen l.seen.items a;
}
