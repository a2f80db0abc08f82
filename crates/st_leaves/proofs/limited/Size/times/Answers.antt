use Rattle.std.proofs.Common.{arith}
use Rattle.st_leaves.proofs.Counts.{copied, copied_some}
use Rattle.st_leaves.proofs.Products.{stopped}
use Rattle.st_leaves.proofs.limited.Size.times.Goals as goal

pub returns-else-choices-eq0 : goal.returns-else-choices-eq0
returns-else-choices-eq0 c texts xs t s =
    copied c.args.self _ c.args.choices texts xs (stopped _ _ _ c.saturating_mul.ensures c.at_most.ensures) (stopped _ _ _ c.saturating_mul-2.ensures c.at_most-2.ensures)
    (copied_some c.args.self c.args.choices _ texts xs (omega (arith, c.if-choices-eq0.false)) t s (c.longest_below.ensures xs s)) t s
