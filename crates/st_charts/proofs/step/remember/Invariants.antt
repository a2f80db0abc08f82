use Rattle.std.proofs.Common.{◌≡◌, ◌++◌, drop, map, take}
use Rattle.st_charts.specs.Charts.{remembered}
use Rattle.st_charts.proofs.step.remember.Given as goal

abbrev pub invariant-loop-step : goal.invariant-loop-step
invariant-loop-step l =
    l.steps ≡ map remembered (take l.step-index l.initial.steps) ++ drop l.step-index l.initial.steps
