use Rattle.st_references.proofs.Returning.{IsSwept}
use Rattle.st_references.proofs.cycles.cyclic_rows.Given as goal

abbrev pub invariant-rows : goal.invariant-rows
invariant-rows l = IsSwept l.graph l.order l.place l.seen.items l.found.items
