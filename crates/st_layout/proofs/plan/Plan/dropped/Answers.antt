use Rattle.std.proofs.Common.{arith}
use Rattle.st_layout.proofs.RunLists.{others_count}
use Rattle.st_layout.proofs.plan.Plan.dropped.Goals as goal

pub returns : goal.returns
returns c = rw (← c.self.view_is) (omega (arith, others_count c.self.inside.targets, c.len.ensures, c.kept.ensures))
