use Rattle.std.proofs.Common.{◌∙◌, ap}
use Rattle.st_values.specs.Values.{truth}
use Rattle.st_meaning.specs.Charts.{flags_values, steps_values}
use Rattle.st_chart_runs.proofs.StateCells.{written}
use Rattle.st_chart_runs.proofs.state.write_state.Goals as goal

pub returns : goal.returns
returns c =
    let view = c.args.sketch.now in
    let steps = c.write_steps.ensures ∙ ap (λ ps. steps_values ps c.args.steps.now) c.pulses.ensures in
    let flags = c.write_flags.ensures ∙ ap (λ ns. flags_values ns c.args.flags.now) c.stored.ensures.numbers in
    rw (steps, flags, c.truth.ensures.value) (written view (truth c.args.begun) c.args.cells.now c.flags_offset-behind.result c.args.steps.now c.args.flags.now c.flags_offset-behind.ensures c.requires.leaves)
