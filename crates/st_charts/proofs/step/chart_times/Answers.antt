use Rattle.std.proofs.Common.{◌<◌, ◌∙◌, ap, arith, length, set, get_or}
use Rattle.std.proofs.lemmas.List.{get_or_default}
use Rattle.std.proofs.lemmas.List.Edits.{map_over_more}
use Rattle.st_charts.specs.Charts.{no_step}
use Rattle.st_charts.proofs.step.chart_times.Goals as goal

pub loop-step-preserved : goal.loop-step-preserved
loop-step-preserved c =
    let within : c.loop-step.step-index < length c.loop-step.steps = omega arith in
    ap (λ step. set c.loop-step.steps c.loop-step.step-index step) c.timed.ensures
    ∙ map_over_more _ c.args.steps.now c.loop-step.steps c.loop-step.step-index (get_or c.loop-step.steps c.loop-step.step-index no_step)
    c.loop-step-test.true c.loop-step.invariant (get_or_default c.loop-step.steps c.loop-step.step-index no_step _ within)
