use Rattle.std.proofs.Common.{◌≡◌, false}
use Rattle.std.specs.List.{list_any, range_with_len}
use Rattle.st_control.specs.Changes.{stops}
use Rattle.st_control.proofs.changing.loses_active_step.Given as goal

-- no leaf so far is the chart of one that stops
abbrev pub invariant-loop-leaf : goal.invariant-loop-leaf
invariant-loop-leaf g l = list_any (stops l.old l.plan.targets (g.M.Memory.content l.old l.memory).values) (range_with_len 0 l.leaf) ≡ false
