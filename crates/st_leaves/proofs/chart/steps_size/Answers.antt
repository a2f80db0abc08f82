use Rattle.std.proofs.Common.{◌+◌, ap, sym, take, ◌∙◌}
use Rattle.std.specs.List.{flat_map}
use Rattle.st_types.specs.Names.{steps_in}
use Rattle.st_leaves.specs.Charts.{step_leaves}
use Rattle.st_leaves.proofs.ChartSizes.{leaves_more, sizes_joined, step_more}
use Rattle.st_leaves.proofs.chart.steps_size.Goals as goal

pub elements-preserved : goal.elements-preserved
elements-preserved c =
    let before = flat_map steps_in (take c.elements.element-index c.args.elements.now) in
    let after = flat_map steps_in (take (c.elements.element-index + 1) c.args.elements.now) in
    sizes_joined c.beside-size.result (flat_map step_leaves before) (step_leaves c.in-Step.step) (flat_map step_leaves after)
    (leaves_more before c.in-Step.step
    ∙ ap (flat_map step_leaves) (sym (step_more c.args.elements.now c.elements.element-index c.element-item.result c.in-Step.step c.elements-test.true c.element-item.is (ap steps_in c.in-Step.is))))
    (c.beside-size.ensures _ _ c.elements.invariant c.step_size.ensures)
