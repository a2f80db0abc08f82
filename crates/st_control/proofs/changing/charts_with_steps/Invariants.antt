use Rattle.st_control.specs.Changes.{AreMarks}
use Rattle.st_control.proofs.changing.charts_with_steps.Given as goal

-- the charts of the steps so far are marked
abbrev pub invariant-loop-leaf : goal.invariant-loop-leaf
invariant-loop-leaf g l = AreMarks l.old l.plan.targets (g.M.Memory.content l.old l.memory).values l.leaf l.keeps.items
