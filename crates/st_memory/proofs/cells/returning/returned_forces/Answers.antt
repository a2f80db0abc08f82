use Rattle.std.proofs.Common.{true, false, ap, map, sym, ◌∙◌, arith}
use Rattle.st_memory.specs.Moves.{moved_force}
use Rattle.st_memory.proofs.Steps.{forces_more, forces_none}
use Rattle.st_memory.proofs.cells.returning.returned_forces.Goals.{then-names_dropped, else-names_dropped}
use Rattle.st_memory.proofs.cells.returning.returned_forces.Goals as goal

pub loop-number-init : goal.loop-number-init
loop-number-init c =
    c.in_ok-returned.ensures ∙ (ap (map (moved_force c.args.forced.now)) c.targets.ensures ∙ sym (forces_none c.args.forced.now 0 c.args.plan.now.targets))

pub loop-number-preserved : goal.loop-number-preserved
loop-number-preserved c =
    elim c.if-names_dropped.branch [
      | then-names_dropped w ↦ forces_more c.args.forced.now c.args.plan.now.targets c.args.numbers.now c.loop-number.number-index _ c.loop-number.returned.items c.if-names_dropped.returned.items true (omega arith) c.requires.count (sym w.if-names_dropped.true ∙ c.names_dropped.ensures) c.loop-number.invariant (ap (λ (v : _). v.items) w.returned-is)
      | else-names_dropped w ↦ forces_more c.args.forced.now c.args.plan.now.targets c.args.numbers.now c.loop-number.number-index _ c.loop-number.returned.items c.if-names_dropped.returned.items false (omega arith) c.requires.count (sym w.if-names_dropped.false ∙ c.names_dropped.ensures) c.loop-number.invariant (ap (λ (v : _). v.items) w.returned-is)
    ]
