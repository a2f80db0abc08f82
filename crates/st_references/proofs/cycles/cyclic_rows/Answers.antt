use Rattle.std.proofs.Common.{arith, sym, subst}
use Rattle.st_references.specs.Graphs.{IsClosed, Refers}
use Rattle.st_references.proofs.Returning.{reversed_closed, swept_seen, swept_new, all_swept}
use Rattle.st_references.proofs.cycles.cyclic_rows.Goals as goal

pub add_reached-requires-clause-closed : goal.add_reached-requires-clause-closed
add_reached-requires-clause-closed c =
    subst IsClosed (sym c.deref.ensures.value) (reversed_closed _ _ c.in_ok-reversal.ensures)

pub add_reached-requires-clause-seen : goal.add_reached-requires-clause-seen
add_reached-requires-clause-seen c a b h r =
    c.rows.invariant.closed b a h ((c.in_ok-reversal.ensures.turned b a).0 (subst (λ graph. Refers graph a b) c.deref.ensures.value r))

pub rows-preserved-then-not-index : goal.rows-preserved-then-not-index
rows-preserved-then-not-index c =
    swept_new _ c.deref.result.now _ _ _ _ _ _ _ c.rows.invariant (rw c.deref.ensures.value c.in_ok-reversal.ensures)
    c.requires.order (omega arith) (omega arith) c.index.ensures c.if-not-index.true
    c.in_ok-add_reached.ensures.new c.in_ok-add_reached.ensures.length

pub rows-preserved : goal.rows-preserved
rows-preserved c = swept_seen _ _ _ _ _ _ c.rows.invariant c.requires.order (omega arith) (omega arith) c.index.ensures c.if-not-index.false

pub returns : goal.returns
returns c a = all_swept _ _ _ _ _ c.rows.invariant (omega arith) c.requires.order a
