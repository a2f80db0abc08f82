use Rattle.std.proofs.Common.{true, false, ap, sym, ◌∙◌, arith}
use Rattle.st_memory.specs.Moves.{saved_bytes}
use Rattle.st_memory.proofs.Contents.{value_fits}
use Rattle.st_memory.proofs.Steps.{bytes_more}
use Rattle.st_memory.proofs.cells.carrying.dropped_bytes.Goals.{then-is_dropped+in_ok-push_value, else-is_dropped}
use Rattle.st_memory.proofs.cells.carrying.dropped_bytes.Goals as goal

pub push_value-requires : goal.push_value-requires
push_value-requires c = (value_fits c.args.old.now c.args.values.now c.loop-leaf.leaf c.requires.types (omega arith)).in_range

pub loop-leaf-preserved : goal.loop-leaf-preserved
loop-leaf-preserved c =
    elim c.if-is_dropped.branch [
      | then-is_dropped+in_ok-push_value w ↦ bytes_more c.args.plan.now.targets c.args.values.now c.loop-leaf.leaf c.loop-leaf.bytes.items c.if-is_dropped.bytes.items (saved_bytes c.args.plan.now.targets c.args.values.now) true (omega arith) (omega arith) (sym c.is_dropped.ensures ∙ w.if-is_dropped.true) c.loop-leaf.invariant (ap (λ (v : _). v.items) w.bytes-is ∙ w.in_ok-push_value.ensures)
      | else-is_dropped w ↦ bytes_more c.args.plan.now.targets c.args.values.now c.loop-leaf.leaf c.loop-leaf.bytes.items c.if-is_dropped.bytes.items (saved_bytes c.args.plan.now.targets c.args.values.now) false (omega arith) (omega arith) (sym c.is_dropped.ensures ∙ w.if-is_dropped.false) c.loop-leaf.invariant (ap (λ (v : _). v.items) w.bytes-is)
    ]
