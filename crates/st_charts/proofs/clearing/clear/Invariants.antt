use Rattle.st_charts.specs.Passages.{passages_of}
use Rattle.st_charts.proofs.ClearingLemmas.{IsClearedUpTo}
use Rattle.st_charts.proofs.clearing.clear.Given as goal

abbrev pub invariant-transitions : goal.invariant-transitions
invariant-transitions l =
    IsClearedUpTo (passages_of l.table.transitions.items) l.table.order.items l.number-index l.initial.steps l.initial.conditions l.steps l.conditions
