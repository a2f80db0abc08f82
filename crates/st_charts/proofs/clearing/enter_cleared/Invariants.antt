use Rattle.std.proofs.Common.{◌&&◌}
use Rattle.st_charts.specs.Passages.{marked, members, passage, passages_of, some_below}
use Rattle.st_charts.specs.Stages.{Changes, entered}
use Rattle.st_charts.proofs.clearing.enter_cleared.Given as goal

abbrev pub invariant-transitions : goal.invariant-transitions
invariant-transitions l =
    Changes (entered l.now) (λ s. some_below l.place (λ t. marked l.cleared t && members (passage (passages_of l.table.transitions.items) t).after s))
    l.initial.steps l.steps
