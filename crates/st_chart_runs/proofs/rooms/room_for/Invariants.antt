use Rattle.std.proofs.Common.{take}
use Rattle.st_chart_runs.specs.Charts.{IsRoomFor}
use Rattle.st_chart_runs.proofs.rooms.room_for.Given as goal

-- room for the charts so far, and no more
abbrev pub invariant-charts : goal.invariant-charts
invariant-charts l = IsRoomFor (take l.chart-index l.charts) l.room
