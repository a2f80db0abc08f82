use Rattle.std.proofs.Common.{◌≡◌, ◌∙◌, ap, arith, length, rules, w64}
use Rattle.std.proofs.lemmas.Int.{to_z-of_z}
use Rattle.st_charts.specs.Outcomes.{IsOutcome, Outcome, invoked}
use Rattle.st_charts.specs.Passages.{passages_of}
use Rattle.st_charts.proofs.OutcomeLaws.{invocations_have_one_outcome}
use Rattle.st_chart_runs.proofs.StateCells.{many_cells, moved_are, names_are}
use Rattle.st_chart_runs.proofs.cells.move_cells_on.Goals as goal

pub read_state-begun-requires-clause-leaves : goal.read_state-begun-requires-clause-leaves
read_state-begun-requires-clause-leaves c = many_cells c.args.sketch.now c.args.cells.now c.requires.typed

pub write_state-requires-clause-leaves : goal.write_state-requires-clause-leaves
write_state-requires-clause-leaves c = many_cells c.args.sketch.now c.args.cells.now c.requires.typed

pub returns-clause-cells : goal.returns-clause-cells
returns-clause-cells c = λ s is.
    let view = c.args.sketch.now in
    let read = c.read_state-begun in
    let table = c.table.result.now in
    let ts = passages_of table.transitions.items in
    let o : Outcome = record { cleared = c.chart_step.new.conditions; steps = c.chart_step.new.steps; flags = c.chart_step.new.flags; on = c.chart_step.new.on } in
    let what : IsOutcome ts table.links.items read.result read.new.steps read.new.flags c.args.conditions.now c.args.now o = record {
      cleared_count = omega (arith, c.chart_step.auto.conditions, c.requires.conditions, ap length c.table.ensures.passages);
      steps_count = omega (arith, c.chart_step.auto.steps);
      flags_count = omega (arith, c.chart_step.auto.flags);
      on_count = omega (arith, c.chart_step.auto.on, c.requires.on, read.auto.flags, c.requires.names);
      clearing = c.chart_step.ensures.cleared;
      stepping = rw (to_z-of_z w64 c.args.now (search rules)) at c.chart_step.ensures.steps;
      storing = rw (to_z-of_z w64 c.args.now (search rules)) at c.chart_step.ensures.flags;
      showing = rw (to_z-of_z w64 c.args.now (search rules)) at c.chart_step.ensures.on;
    } in
    let follows : o ≡ invoked view.passages view.links read.result read.new.steps read.new.flags c.args.conditions.now c.args.now =
    invocations_have_one_outcome ts table.order.items table.links.items read.result read.new.steps read.new.flags c.args.conditions.now c.args.now o table.ordered what
    ∙ ap (λ ps. invoked ps table.links.items read.result read.new.steps read.new.flags c.args.conditions.now c.args.now) c.table.ensures.passages
    ∙ ap (λ ls. invoked view.passages ls read.result read.new.steps read.new.flags c.args.conditions.now c.args.now) c.table.ensures.links
    in
    moved_are view s is c.args.cells.now (length c.args.flags.now) c.requires.names read.result read.ensures.begun read.new.steps read.ensures.steps read.new.flags read.ensures.flags c.args.now
    c.args.conditions.now o follows c.write_state.new.cells c.write_state.ensures

pub returns-clause-on : goal.returns-clause-on
returns-clause-on c = λ s is.
    let view = c.args.sketch.now in
    let read = c.read_state-begun in
    let table = c.table.result.now in
    let ts = passages_of table.transitions.items in
    let o : Outcome = record { cleared = c.chart_step.new.conditions; steps = c.chart_step.new.steps; flags = c.chart_step.new.flags; on = c.chart_step.new.on } in
    let what : IsOutcome ts table.links.items read.result read.new.steps read.new.flags c.args.conditions.now c.args.now o = record {
      cleared_count = omega (arith, c.chart_step.auto.conditions, c.requires.conditions, ap length c.table.ensures.passages);
      steps_count = omega (arith, c.chart_step.auto.steps);
      flags_count = omega (arith, c.chart_step.auto.flags);
      on_count = omega (arith, c.chart_step.auto.on, c.requires.on, read.auto.flags, c.requires.names);
      clearing = c.chart_step.ensures.cleared;
      stepping = rw (to_z-of_z w64 c.args.now (search rules)) at c.chart_step.ensures.steps;
      storing = rw (to_z-of_z w64 c.args.now (search rules)) at c.chart_step.ensures.flags;
      showing = rw (to_z-of_z w64 c.args.now (search rules)) at c.chart_step.ensures.on;
    } in
    let follows : o ≡ invoked view.passages view.links read.result read.new.steps read.new.flags c.args.conditions.now c.args.now =
    invocations_have_one_outcome ts table.order.items table.links.items read.result read.new.steps read.new.flags c.args.conditions.now c.args.now o table.ordered what
    ∙ ap (λ ps. invoked ps table.links.items read.result read.new.steps read.new.flags c.args.conditions.now c.args.now) c.table.ensures.passages
    ∙ ap (λ ls. invoked view.passages ls read.result read.new.steps read.new.flags c.args.conditions.now c.args.now) c.table.ensures.links
    in
    names_are view s is c.args.cells.now (length c.args.flags.now) c.requires.names read.result read.ensures.begun read.new.steps read.ensures.steps read.new.flags read.ensures.flags c.args.now
    c.args.conditions.now o follows
