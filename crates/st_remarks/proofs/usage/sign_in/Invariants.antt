use Rattle.std.proofs.Common.{length}
use Rattle.st_remarks.proofs.usage.sign_in.Given as goal

abbrev pub decreases-loop-spot : goal.decreases-loop-spot
decreases-loop-spot l = length l.words.rest.now
