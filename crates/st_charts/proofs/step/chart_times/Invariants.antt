use Rattle.std.proofs.Common.{◌≡◌, ◌++◌, drop, map, take}
use Rattle.st_charts.specs.Charts.{timed}
use Rattle.st_charts.proofs.step.chart_times.Given as goal

abbrev pub invariant-loop-step : goal.invariant-loop-step
invariant-loop-step l =
    l.steps ≡ map (timed l.begun l.now) (take l.step-index l.initial.steps) ++ drop l.step-index l.initial.steps
