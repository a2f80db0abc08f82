use Rattle.std.proofs.Common.{◌≡◌, ◌∙◌, ap, arith, length, rules, w64}
use Rattle.std.proofs.lemmas.Int.{to_z-of_z}
use Rattle.std.proofs.lemmas.Slice.Zip.{AllZip-long}
use Rattle.st_values.specs.Values.{IsOfType}
use Rattle.st_meaning.specs.Charts.{times_set}
use Rattle.st_meaning.specs.Sketches.{chart_size}
use Rattle.st_chart_runs.specs.Views.{types_of}
use Rattle.st_chart_runs.proofs.Stretched.{leaves_there, part_is, read_typed, timed_typed, types_are, written_fit}
use Rattle.st_chart_runs.proofs.runs.set_times_over.Goals as goal

pub load_values-requires-clause-there : goal.load_values-requires-clause-there
load_values-requires-clause-there g c =
    let content = g.M.Memory.content c.args.layout.now c.args.memory.now in
    omega (arith, c.requires.cells, leaves_there c.args.sketch.now c.args.leaf content.values c.requires.stands)

pub set_cell_times-requires-clause-typed : goal.set_cell_times-requires-clause-typed
set_cell_times-requires-clause-typed g c =
    let content = g.M.Memory.content c.args.layout.now c.args.memory.now in
    read_typed c.args.sketch.now c.args.leaf content.values c.load_values.new.cells _ c.requires.stands c.requires.cells c.load_values.ensures

pub store_values-requires-clause-fit : goal.store_values-requires-clause-fit
store_values-requires-clause-fit g c =
    let content = g.M.Memory.content c.args.layout.now c.args.memory.now in
    let read = read_typed c.args.sketch.now c.args.leaf content.values c.load_values.new.cells _ c.requires.stands c.requires.cells c.load_values.ensures in
    let made = rw (to_z-of_z w64 c.args.now (search rules)) at c.set_cell_times.ensures in
    written_fit c.args.layout.now content c.args.sketch.now c.args.leaf c.set_cell_times.new.cells (g.met.M.Memory.fits _ _ c.requires.over) c.requires.stands
    (timed_typed c.args.sketch.now c.args.now c.ranges.now c.load_values.new.cells c.set_cell_times.new.cells read made)

pub returns-clause-values : goal.returns-clause-values
returns-clause-values g c = λ s is.
    let content = g.M.Memory.content c.args.layout.now c.args.memory.now in
    let view = c.args.sketch.now in
    let read = read_typed view c.args.leaf content.values c.load_values.new.cells _ c.requires.stands c.requires.cells c.load_values.ensures in
    let made = rw (to_z-of_z w64 c.args.now (search rules)) at c.set_cell_times.ensures in
    let typed = timed_typed view c.args.now c.ranges.now c.load_values.new.cells c.set_cell_times.new.cells read made in
    let size : length (types_of view) ≡ chart_size s = ap length (types_are view s is) in
    c.store_values.ensures.values
    ∙ part_is content.forced content.values c.load_values.new.cells c.set_cell_times.new.cells c.args.leaf _ (chart_size s) (times_set s c.args.now)
    (AllZip-long IsOfType (types_of view) c.set_cell_times.new.cells typed ∙ size) (c.requires.cells ∙ size) c.load_values.ensures (made s is)
