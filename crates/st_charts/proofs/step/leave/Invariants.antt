use Rattle.std.proofs.Common.{take}
use Rattle.st_charts.specs.Passages.{members}
use Rattle.st_charts.specs.Stages.{Changes, left}
use Rattle.st_charts.proofs.step.leave.Given as goal

abbrev pub invariant-loop-number : goal.invariant-loop-number
invariant-loop-number l = Changes left (members (take l.number-index l.numbers)) l.initial.steps l.steps
