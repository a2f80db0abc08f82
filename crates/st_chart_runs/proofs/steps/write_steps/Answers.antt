use Rattle.std.proofs.Common.{◌≡◌, ◌<◌, ◌+◌, ◌++◌, arith, drop, length, subst, sym, take}
use Rattle.st_meaning.specs.Charts.{steps_values}
use Rattle.st_chart_runs.proofs.StepCells.{leaves_left, step_written}
use Rattle.st_chart_runs.proofs.steps.write_steps.Goals as goal

pub loop-i-preserved : goal.loop-i-preserved
loop-i-preserved c =
    let pulses = c.args.pulses.now in
    let steps = c.args.steps.now in
    let i = c.loop-i.i in
    let cells = c.loop-i.cells in
    let place = c.loop-i.place in
    let new = c.write_step-place.new.cells in
    let h : i < length pulses = c.loop-i-test.true in
    let k : i < length steps = omega (arith, h, c.requires.count) in
    record {
      leaves = leaves_left pulses i _ place c.write_step-place.result (length cells) (length new) h c.write_step-place.ensures.place c.loop-i.invariant.leaves c.write_step-place.auto.cells;
      written = subst (λ n. take n new ++ steps_values (drop (i + 1) pulses) (drop (i + 1) steps) ≡ steps_values pulses steps) (sym c.write_step-place.ensures.place)
          (step_written pulses i _ steps _ cells new (steps_values pulses steps) place h k c.loop-i.invariant.leaves c.loop-i.invariant.written c.write_step-place.ensures.cells);
    }
