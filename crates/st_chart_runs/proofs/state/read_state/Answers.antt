use Rattle.std.proofs.Common.{◌∙◌, ap, arith, drop, length, subst, sym}
use Rattle.st_meaning.specs.Charts.{cells_in}
use Rattle.st_meaning.specs.Meaning.{Values}
use Rattle.st_meaning.specs.Sketches.{steps_types}
use Rattle.st_chart_runs.specs.Parts.{AreFirst}
use Rattle.st_chart_runs.proofs.StateCells.{flags_there, rest_of, steps_first}
use Rattle.st_chart_runs.proofs.state.read_state.Goals as goal

pub read_steps-requires-clause-typed : goal.read_steps-requires-clause-typed
read_steps-requires-clause-typed c =
    subst (λ (vs : Values). AreFirst (steps_types c.pulses.result.now) vs) (sym (rest_of 1 c.args.cells.now))
    (subst (λ ps. AreFirst (steps_types ps) (drop 1 c.args.cells.now)) (sym c.pulses.ensures) (steps_first c.args.sketch.now c.args.cells.now c.requires.typed))

pub read_flags-requires-clause-leaves : goal.read_flags-requires-clause-leaves
read_flags-requires-clause-leaves c =
    let view = c.args.sketch.now in
    let cells = c.args.cells.now in
    let there = flags_there view cells c.requires.leaves in
    omega (arith, there, ap length (rest_of c.flags_offset-behind.result cells), ap (λ n. length (drop n cells)) c.flags_offset-behind.ensures, ap length c.stored.ensures.numbers)

pub returns-clause-steps : goal.returns-clause-steps
returns-clause-steps c =
    c.read_steps.ensures ∙ ap (cells_in c.pulses.result.now) (rest_of 1 c.args.cells.now) ∙ ap (λ ps. cells_in ps (drop 1 c.args.cells.now)) c.pulses.ensures
