use Rattle.std.proofs.Common.{◌≡◌, [], replicate}
use Rattle.st_references.proofs.reversal.unconnected.Given as goal

abbrev pub invariant-loop-row : goal.invariant-loop-row
invariant-loop-row l = l.graph.items ≡ replicate l._row []
