use Rattle.std.proofs.Common.{◌∙◌, ◌||◌, ap}
use Rattle.st_control.specs.Changes.{mark_at}
use Rattle.st_layout.specs.Pairs.{is_number}
use Rattle.st_control.proofs.Charts.{marks_more}
use Rattle.st_control.proofs.changing.charts_with_steps.Goals as goal

pub loop-leaf-preserved : goal.loop-leaf-preserved
loop-leaf-preserved g c =
    marks_more c.args.old.now c.args.plan.now.targets (g.M.Memory.content c.args.old.now c.args.memory.now).values
    c.loop-leaf.leaf c.loop-leaf.keeps.items c.set_mark.new.marks.items c.loop-leaf.invariant c.set_mark.ensures.long
    (λ k below. c.set_mark.ensures.marks k below ∙ ap (λ number. mark_at c.loop-leaf.keeps.items k || is_number k number) c.active_chart-chart.ensures)
