use Rattle.std.proofs.Common.{true, false, ap, sym, ◌∙◌, Bool, List, arith, length}
use Rattle.st_memory.specs.Moves.{saved_forced}
use Rattle.st_memory.specs.Packed.{marked}
use Rattle.st_memory.proofs.Bits.{length-marked, numbers_more}
use Rattle.st_memory.proofs.packed.carrying.dropped_marks.Goals.{then-drops_mark+in_ok-push, else-drops_mark}
use Rattle.st_memory.proofs.packed.carrying.dropped_marks.Goals as goal

pub loop-leaf-preserved : goal.loop-leaf-preserved
loop-leaf-preserved c =
    let forced : List Bool = marked (length c.args.old.now) c.args.marks.now in
    let count = length-marked (length c.args.old.now) c.args.marks.now in
    elim c.if-drops_mark.branch [
      | then-drops_mark+in_ok-push w ↦ numbers_more c.args.plan.now.targets forced c.loop-leaf.leaf c.loop-leaf.numbers.items c.if-drops_mark.numbers.items (saved_forced 0 c.args.plan.now.targets forced) true (omega arith) (omega arith) (sym c.drops_mark.ensures ∙ w.if-drops_mark.true) c.loop-leaf.invariant (ap (λ (v : _). v.items) w.numbers-is ∙ w.in_ok-push.ensures.items)
      | else-drops_mark w ↦ numbers_more c.args.plan.now.targets forced c.loop-leaf.leaf c.loop-leaf.numbers.items c.if-drops_mark.numbers.items (saved_forced 0 c.args.plan.now.targets forced) false (omega arith) (omega arith) (sym c.drops_mark.ensures ∙ w.if-drops_mark.false) c.loop-leaf.invariant (ap (λ (v : _). v.items) w.numbers-is)
    ]
