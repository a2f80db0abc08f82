use Rattle.std.proofs.Common.{◌≡◌, take}
use Rattle.std.specs.Prelude.{count_by}
use Rattle.st_control.proofs.state.State.force_count.Given as goal

-- the count so far
abbrev pub invariant-loop-leaf : goal.invariant-loop-leaf
invariant-loop-leaf g l = l.count ≡ count_by (λ forced. forced) (take l.leaf l.self.content.forced)
