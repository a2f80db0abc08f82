use Rattle.std.proofs.Common.{length, rules, w64}
use Rattle.std.proofs.lemmas.Int.{to_z-of_z}
use Rattle.st_chart_runs.proofs.StateCells.{many_cells, times_are}
use Rattle.st_chart_runs.proofs.cells.set_cell_times.Goals as goal

pub read_state-begun-requires-clause-leaves : goal.read_state-begun-requires-clause-leaves
read_state-begun-requires-clause-leaves c = many_cells c.args.sketch.now c.args.cells.now c.requires.typed

pub write_state-requires-clause-leaves : goal.write_state-requires-clause-leaves
write_state-requires-clause-leaves c = many_cells c.args.sketch.now c.args.cells.now c.requires.typed

pub returns : goal.returns
returns c = λ s is.
    let read = c.read_state-begun in
    let set = rw (to_z-of_z w64 c.args.now (search rules)) at c.chart_times.ensures in
    times_are c.args.sketch.now s is c.args.cells.now (length c.args.flags.now) c.requires.names read.result read.ensures.begun read.new.steps read.ensures.steps read.new.flags read.ensures.flags c.args.now
    c.chart_times.new.steps c.write_state.new.cells set c.write_state.ensures
