use Rattle.std.proofs.Common.{◌<◌, ◌∙◌, arith, length}
use Rattle.st_check.specs.Programs.{main_of, text_of}
use Rattle.st_types.specs.Names.{units_of}
use Rattle.st_compile.specs.Programs.{program_charts, unit_chart}
use Rattle.st_compile.proofs.Coded.{bounds_at, chart_at, main_small, unit_below}
use Rattle.st_compile.proofs.Listed.{view_pushed, views_done}
use Rattle.st_compile.proofs.charts.charts_of.Goals as goal

pub chart_of-requires-clause-bounds : goal.chart_of-requires-clause-bounds
chart_of-requires-clause-bounds c =
    let units = units_of (text_of c.args.program.now) in
    let below : c.units.number < length units = omega (arith, c.units-test.true, c.requires.units) in
    let there = unit_below units c.units.number below in
    bounds_at c.args.program.now c.args.tables.now c.requires.tables c.units.number there.0 there.1 c.units_are_sound.ensures c.main-main.ensures.checked

pub chart_of-requires-clause-small : goal.chart_of-requires-clause-small
chart_of-requires-clause-small c same =
    let units = units_of (text_of c.args.program.now) in
    let below : c.units.number < length units = omega (arith, c.units-test.true, c.requires.units) in
    let there = unit_below units c.units.number below in
    main_small c.args.program.now c.units.number (same ∙ c.main-main.ensures.main) there.0 there.1 c.args.tables.now c.requires.tables c.main-main.ensures.checked c.checked_program_is_small.ensures

pub units-preserved : goal.units-preserved
units-preserved c =
    let units = units_of (text_of c.args.program.now) in
    let below : c.units.number < length units = omega (arith, c.units-test.true, c.requires.units) in
    let there = unit_below units c.units.number below in
    view_pushed units c.units.number there.0 there.1 (unit_chart units (main_of c.args.program.now)) c.units.charts.items c.push.new.self.items c.in_ok-chart_of.field-0 c.in_ok-push.ensures.items c.units.invariant
    (c.in_ok-chart_of.ensures ∙ chart_at c.args.program.now c.args.tables.now c.requires.tables c.units.number there.0 there.1 c.main-main.result c.main-main.ensures.main)

pub returns : goal.returns
unfolding program_charts
returns c =
    let units = units_of (text_of c.args.program.now) in
    views_done (unit_chart units (main_of c.args.program.now)) units c.units.charts.items c.units.number (omega (arith, c.units-test.false, c.requires.units)) c.units.invariant
