use Rattle.std.proofs.Common.{◌≤◌, ap, length, reverse, rules, sym, take, w64, ◌∙◌, length-take-le}
use Rattle.std.proofs.lemmas.Int.{to_z-of_z}
use Rattle.std.proofs.lemmas.List.{length-reverse}
use Rattle.st_chart_runs.specs.Views.{room_of}
use Rattle.st_machine.proofs.ChartWorks.{all_named, ask_stands, chart_does, chart_is, chart_many, chart_room, chart_stands, times_stands}
use Rattle.st_machine.proofs.charts.do_chart.Goals as goal

-- ---- the times

pub set_times-requires-clause-stands : goal.set_times-requires-clause-stands
set_times-requires-clause-stands g c =
    let content = g.M.Memory.content c.args.layout.now c.args.memory.now in
    let work = rw c.in-Times.is at c.requires.work in
    times_stands c.args.charts.now (room_of c.args.workspace.now) _ content c.args.stack.now c.in-Times.unit c.in-Times.leaf _ c.chart_of.ensures work

pub set_times-requires-clause-room : goal.set_times-requires-clause-room
set_times-requires-clause-room g c = c.requires.work.fit c.in-Times.unit c.chart_of.result.now c.chart_of.ensures

-- ---- a question

pub is_asked-asked-requires-clause-stands : goal.is_asked-asked-requires-clause-stands
is_asked-asked-requires-clause-stands g c =
    let content = g.M.Memory.content c.args.layout.now c.args.memory.now in
    let work = rw c.in-Ask.is at c.requires.work in
    ask_stands c.args.charts.now (room_of c.args.workspace.now) _ content c.args.stack.now c.in-Ask.unit c.in-Ask.leaf _ c.chart_of-in-Ask.ensures c.in-Ask.number work

-- ---- an invocation

pub invoke_chart-requires-clause-stands : goal.invoke_chart-requires-clause-stands
invoke_chart-requires-clause-stands g c =
    let content = g.M.Memory.content c.args.layout.now c.args.memory.now in
    let work = rw c.in-Chart.is at c.requires.work in
    chart_stands c.args.charts.now (room_of c.args.workspace.now) _ content c.args.stack.now c.in-Chart.unit c.in-Chart.leaf _ c.chart_of-sketch.ensures work

pub invoke_chart-requires-clause-conditions : goal.invoke_chart-requires-clause-conditions
invoke_chart-requires-clause-conditions g c =
    let content = g.M.Memory.content c.args.layout.now c.args.memory.now in
    let view = c.chart_of-sketch.result.now in
    let stack = c.args.stack.now in
    let work = rw c.in-Chart.is at c.requires.work in
    let many : length view.passages ≤ length stack.0 =
    chart_many c.args.charts.now (room_of c.args.workspace.now) _ content stack c.in-Chart.unit c.in-Chart.leaf view c.chart_of-sketch.ensures work in
    ap length c.newest-conditions.ensures ∙ length-reverse (take c.transitions.result stack.0) ∙ ap (λ n. length (take n stack.0)) c.transitions.ensures
    ∙ length-take-le (length view.passages) stack.0 many

pub invoke_chart-requires-clause-room : goal.invoke_chart-requires-clause-room
invoke_chart-requires-clause-room g c = c.requires.work.fit c.in-Chart.unit c.chart_of-sketch.result.now c.chart_of-sketch.ensures

pub slice_bounds-put_names-end : goal.slice_bounds-put_names-end
slice_bounds-put_names-end g c =
    let view = c.chart_of-sketch.result.now in
    let fit = c.requires.work.fit c.in-Chart.unit view c.chart_of-sketch.ensures in
    sym (all_named view (room_of c.args.workspace.now) c.invoke_chart.new.workspace c.on.result.now c.names.result fit c.invoke_chart.ensures.room c.on.ensures c.names.ensures)

pub put_names-requires-clause-names : goal.put_names-requires-clause-names
put_names-requires-clause-names g c =
    let view = c.chart_of-sketch.result.now in
    let fit = c.requires.work.fit c.in-Chart.unit view c.chart_of-sketch.ensures in
    sym (all_named view (room_of c.args.workspace.now) c.invoke_chart.new.workspace c.on.result.now c.names.result fit c.invoke_chart.ensures.room c.on.ensures c.names.ensures ∙ c.names.ensures)

pub put_names-requires-clause-room : goal.put_names-requires-clause-room
put_names-requires-clause-room g c =
    let content = g.M.Memory.content c.args.layout.now c.args.memory.now in
    let charts = c.args.charts.now in
    let room = room_of c.args.workspace.now in
    let now = c.args.now in
    let stack = c.args.stack.now in
    let unit = c.in-Chart.unit in
    let leaf = c.in-Chart.leaf in
    let view = c.chart_of-sketch.result.now in
    let at = c.chart_of-sketch.ensures in
    let numbers = c.newest-conditions.result.now in
    let on = take c.names.result c.on.result.now in
    let is = c.newest-conditions.ensures ∙ ap (λ n. reverse (take n stack.0)) c.transitions.ensures in
    let work = rw c.in-Chart.is at c.requires.work in
    let names = rw (to_z-of_z w64 now (search rules)) at c.invoke_chart.ensures.on in
    let said = ap (λ n. take n c.on.result.now) c.names.ensures ∙ ap (take (length view.variables)) c.on.ensures
    ∙ names (work.env.charts unit) (chart_is charts room now content stack unit leaf view at work) in
    chart_room charts room now content stack unit leaf view at work numbers on is said

pub returns-in-Chart-clause-does : goal.returns-in-Chart-clause-does
returns-in-Chart-clause-does g c =
    let content = g.M.Memory.content c.args.layout.now c.args.memory.now in
    let after = g.M.Memory.content c.args.layout.now c.invoke_chart.new.memory in
    let charts = c.args.charts.now in
    let room = room_of c.args.workspace.now in
    let now = c.args.now in
    let stack = c.args.stack.now in
    let unit = c.in-Chart.unit in
    let leaf = c.in-Chart.leaf in
    let view = c.chart_of-sketch.result.now in
    let at = c.chart_of-sketch.ensures in
    let numbers = c.newest-conditions.result.now in
    let on = take c.names.result c.on.result.now in
    let is = c.newest-conditions.ensures ∙ ap (λ n. reverse (take n stack.0)) c.transitions.ensures in
    let names = rw (to_z-of_z w64 now (search rules)) at c.invoke_chart.ensures.on in
    let values = rw (to_z-of_z w64 now (search rules)) at c.invoke_chart.ensures.values in
    let same = ap (λ n. take n c.on.result.now) c.names.ensures ∙ ap (take (length view.variables)) c.on.ensures in
    rw c.in-Chart.is (λ work.
    let its = work.env.charts unit in
    let its_view = chart_is charts room now content stack unit leaf view at work in
    chart_does charts room now content stack unit leaf view at work numbers on c.put_names.new.stack.0 after.values is (same ∙ names its its_view) (values its its_view)
    c.put_names.ensures.cells)
