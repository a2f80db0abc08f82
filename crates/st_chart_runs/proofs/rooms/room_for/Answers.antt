use Rattle.std.proofs.Common.{arith, subst}
use Rattle.std.proofs.lemmas.List.{take_all}
use Rattle.st_chart_runs.specs.Charts.{IsRoomFor, IsWithin}
use Rattle.st_chart_runs.proofs.RoomCells.{more_room}
use Rattle.st_chart_runs.proofs.rooms.room_for.Goals as goal

pub charts-preserved : goal.charts-preserved
charts-preserved c =
    let wider : IsWithin c.charts.room c.with_chart-room.result = record { steps = c.with_chart-room.ensures.steps; names = c.with_chart-room.ensures.names; transitions = c.with_chart-room.ensures.transitions; leaves = c.with_chart-room.ensures.leaves } in
    more_room c.args.charts.now c.charts.chart-index _ _ c.charts.room c.with_chart-room.result c.charts-test.true c.chart-item.is wider c.with_chart-room.ensures.fits c.with_chart-room.ensures.least
    c.charts.invariant

pub returns : goal.returns
returns c =
    subst (λ cs. IsRoomFor cs c.charts.room) (take_all c.charts.chart-index c.args.charts.now (omega (arith, c.charts-test.false))) c.charts.invariant
