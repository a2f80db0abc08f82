use Rattle.std.proofs.Common.{◌≡◌, drop, length, take}
use Rattle.std.specs.List.{list_all}
use Rattle.st_charts.specs.Charts.{active_in}
use Rattle.st_meaning.specs.Charts.{cells_in}
use Rattle.st_meaning.specs.Statements.{stretch}
use Rattle.st_chart_runs.specs.Views.{types_of}
use Rattle.st_chart_runs.proofs.questions.are_active.Given as goal

-- whether those so far are
abbrev pub invariant-steps : goal.invariant-steps
invariant-steps g l =
    let values = (g.M.Memory.content l.layout l.memory).values in
    l.all ≡ list_all (active_in (cells_in l.sketch.pulses (drop 1 (stretch values l.leaf (length (types_of l.sketch)))))) (take l.step-index l.steps)
