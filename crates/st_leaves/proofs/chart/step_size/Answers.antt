use Rattle.st_leaves.specs.Charts.{state_leaves}
use Rattle.st_leaves.proofs.ChartSizes.{step_sized}
use Rattle.st_leaves.proofs.chart.step_size.Goals as goal

pub returns : goal.returns
returns c =
    step_sized c.named_size.result c.args.step.now c.as_slice-2.result.now c.as_slice.result.now c.has_pulse.result c.as_slice-2.ensures c.as_slice.ensures c.has_pulse.ensures
    (c.named_size.ensures (state_leaves c.has_pulse.result) c.state_size-state.ensures)
