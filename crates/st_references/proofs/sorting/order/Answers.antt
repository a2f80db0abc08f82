use Rattle.std.proofs.Common.{arith}
use Rattle.st_references.proofs.Orders.{postorder_is_order, none_returns}
use Rattle.st_references.proofs.sorting.order.Goals as goal

pub returns-then-is_empty-clause-order : goal.returns-then-is_empty-clause-order
returns-then-is_empty-clause-order c =
    postorder_is_order _ _ c.in_ok-order.ensures (none_returns _ _ c.in_ok-cyclic.ensures (grind (arith, c.is_empty.ensures, c.if-is_empty.true)))
