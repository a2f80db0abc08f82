use Rattle.std.proofs.Common.{arith}
use Rattle.st_references.proofs.Walking.{all_left}
use Rattle.st_references.proofs.walk.postorder.Goals as goal

pub returns : goal.returns
returns c =
    all_left c.args.graph.now c.rows.seen.items c.rows.order.items c.rows.invariant.walk (λ a h. c.rows.invariant.seen a (omega arith))
