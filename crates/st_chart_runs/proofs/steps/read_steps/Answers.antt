use Rattle.std.proofs.Common.{◌≡◌, ◌<◌, ◌+◌, ◌++◌, ◌∙◌, ap, arith, drop, length, set, subst, sym, take}
use Rattle.st_chart_runs.specs.Parts.{AreFirst}
use Rattle.st_meaning.specs.Charts.{cell_in, cells_in}
use Rattle.st_meaning.specs.Meaning.{Values}
use Rattle.st_meaning.specs.Sketches.{steps_types}
use Rattle.st_chart_runs.proofs.StepCells.{step_read, step_there}
use Rattle.st_chart_runs.proofs.steps.read_steps.Goals as goal

pub loop-i-preserved : goal.loop-i-preserved
loop-i-preserved c =
    let pulses = c.args.pulses.now in
    let i = c.loop-i.i in
    let steps = c.loop-i.steps in
    let rest = c.loop-i.rest.now in
    let h : i < length pulses = c.loop-i-test.true in
    let own = c.split_at.ensures.front ∙ ap (λ n. take n rest) c.leaves_of_step.ensures.count in
    let others = c.split_at.ensures.back ∙ ap (λ n. drop n rest) c.leaves_of_step.ensures.count in
    let long : length steps ≡ length pulses = omega (arith, c.loop-i.auto.steps, c.requires.count) in
    record {
      typed = subst (λ (vs : Values). AreFirst (steps_types (drop (i + 1) pulses)) vs) (sym others) (step_there pulses i _ rest h c.loop-i.invariant.typed).others;
      read = subst (λ (vs : Values). take (i + 1) (set steps i c.step_in.result) ++ cells_in (drop (i + 1) pulses) vs ≡ cells_in pulses c.args.cells.now) (sym others)
          (step_read pulses i _ rest steps _ c.step_in.result h long c.loop-i.invariant.typed c.loop-i.invariant.read (c.step_in.ensures ∙ ap (cell_in _) own));
    }
