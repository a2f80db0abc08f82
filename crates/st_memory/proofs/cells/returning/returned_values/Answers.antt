use Rattle.std.proofs.Common.{◌+◌, ap, sym, ◌∙◌, arith}
use Rattle.std.proofs.lemmas.List.{take_rest}
use Rattle.st_tree.specs.declared.leaf.Leaf.{Leaf}
use Rattle.st_memory.specs.Bytes.{read_bytes}
use Rattle.st_memory.proofs.Steps.{IsReturned, returned_dropped, returned_kept}
use Rattle.st_memory.proofs.cells.returning.returned_values.Goals.{in-Some, in-None}
use Rattle.st_memory.proofs.cells.returning.returned_values.Goals as goal

pub loop-leaf-preserved : goal.loop-leaf-preserved
loop-leaf-preserved c =
    let so_far : IsReturned c.args.old.now c.args.plan.now.targets c.args.values.now c.args.bytes.now c.loop-leaf.leaf c.loop-leaf.start c.loop-leaf.returned.items =
    record { within = c.loop-leaf.invariant.within; holds = c.loop-leaf.invariant.holds; before = c.loop-leaf.invariant.values } in
    let next : IsReturned c.args.old.now c.args.plan.now.targets c.args.values.now c.args.bytes.now (c.loop-leaf.leaf + 1) c.match-target.start c.push.new.self.items =
    elim c.match-target.branch [
      | in-Some w ↦
          returned_kept c.args.old.now c.args.plan.now.targets c.args.values.now c.args.bytes.now c.loop-leaf.leaf c.loop-leaf.start c.loop-leaf.returned.items (omega arith) (omega arith) so_far
          c.match-target.start w.in-Some.target c.match-target.value c.push.new.self.items (sym c.target.ensures ∙ w.in-Some.is) w.start-is w.value-is c.in_ok-push.ensures.items
      | in-None w ↦
          returned_dropped c.args.old.now c.args.plan.now.targets c.args.values.now c.args.bytes.now c.loop-leaf.leaf c.loop-leaf.start c.loop-leaf.returned.items (omega arith) (omega arith) so_far
          c.match-target.start w.width-start.result w.at.result.now.elem c.match-target.value c.push.new.self.items (sym c.target.ensures ∙ w.in-None.is)
          (ap (λ (leaf : Leaf). leaf.elem) w.at.ensures.value) w.width-start.ensures.value w.start-is
          (w.value-is ∙ (w.first_value-value.ensures ∙ ap (read_bytes w.at.result.now.elem) (take_rest c.args.bytes.now c.loop-leaf.start))) c.in_ok-push.ensures.items
    ] in
    record { within = next.within; holds = next.holds; values = next.before }
