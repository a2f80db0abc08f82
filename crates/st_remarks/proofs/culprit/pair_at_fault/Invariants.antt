use Rattle.std.proofs.Common.{length}
use Rattle.st_remarks.proofs.culprit.pair_at_fault.Given as goal

abbrev pub decreases-loop-spot : goal.decreases-loop-spot
decreases-loop-spot g l = length l.words.rest.now
