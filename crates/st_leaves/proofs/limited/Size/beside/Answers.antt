use Rattle.std.proofs.Common.{arith}
use Rattle.st_leaves.proofs.Counts.{beside}
use Rattle.st_leaves.proofs.limited.Size.beside.Goals as goal

pub returns : goal.returns
returns c xs ys s t =
    beside c.args.self c.args.other _ xs ys (omega (arith, c.at_most.ensures, c.saturating_add.ensures)) (omega (arith, c.at_most-2.ensures, c.saturating_add-2.ensures)) c.larger.ensures s t
