use Rattle.std.proofs.Common.{arith}
use Rattle.st_leaves.proofs.Counts.{below_some}
use Rattle.st_leaves.proofs.limited.Size.longest_below.Goals as goal

pub returns-else-self-eq0 : goal.returns-else-self-eq0
returns-else-self-eq0 c xs s =
    omega (arith, c.at_most.ensures, c.saturating_add.ensures, s.longest, below_some c.args.self c.args.bytes xs (omega (arith, c.if-self-eq0.false)) s)
