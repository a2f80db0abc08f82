use Rattle.std.proofs.Common.{take}
use Rattle.st_charts.specs.Charts.{is_named, step_in}
use Rattle.st_charts.specs.Stages.{Changes, has_effect}
use Rattle.st_charts.proofs.names.mark.Given as goal

abbrev pub invariant-links : goal.invariant-links
invariant-links l =
    Changes (λ _. l.value) (is_named (take l.link-index l.links) (step_in l.steps) (has_effect l.effect)) l.initial.marks l.marks
