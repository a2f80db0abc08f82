use Rattle.std.proofs.Common.{take}
use Rattle.st_charts.specs.Passages.{members}
use Rattle.st_charts.specs.Stages.{Changes, entered}
use Rattle.st_charts.proofs.step.enter.Given as goal

abbrev pub invariant-loop-number : goal.invariant-loop-number
invariant-loop-number l = Changes (entered l.now) (members (take l.number-index l.numbers)) l.initial.steps l.steps
