use Rattle.std.proofs.Common.{refl, arith}
use Rattle.st_leaves.proofs.Counts.{paired_none, paired_some}
use Rattle.st_leaves.proofs.Products.{stopped}
use Rattle.st_leaves.proofs.limited.Choices.times.Goals as goal

pub returns-then-count-eq0 : goal.returns-then-count-eq0
returns-then-count-eq0 c texts more s t =
    paired_none c.args.self c.args.other _ texts more (stopped _ _ _ c.saturating_mul.ensures c.at_most-count.ensures) (omega (arith, c.if-count-eq0.true)) refl s t

pub returns-else-count-eq0 : goal.returns-else-count-eq0
returns-else-count-eq0 c texts more s t =
    paired_some c.args.self c.args.other _ texts more (stopped _ _ _ c.saturating_mul.ensures c.at_most-count.ensures) (omega (arith, c.if-count-eq0.false)) (omega (arith, c.at_most.ensures, c.saturating_add.ensures)) s t
