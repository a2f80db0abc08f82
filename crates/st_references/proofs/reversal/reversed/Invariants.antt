use Rattle.st_references.proofs.Reversing.{IsReversedBelow}
use Rattle.st_references.proofs.reversal.reversed.Given as goal

abbrev pub invariant-rows : goal.invariant-rows
invariant-rows l = IsReversedBelow l.graph l.reversal.items l.row
