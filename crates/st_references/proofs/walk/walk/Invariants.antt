use Rattle.st_references.proofs.Steps.{IsWalkFrom}
use Rattle.st_references.proofs.Visits.{work}
use Rattle.st_references.proofs.walk.walk.Given as goal

abbrev pub invariant-steps : goal.invariant-steps
invariant-steps l = IsWalkFrom l.graph l.from l.fn.seen.items l.path.items l.seen.items l.order.items

abbrev pub decreases-steps : goal.decreases-steps
decreases-steps l = work l.graph l.path.items l.seen.items
