use Rattle.std.proofs.Common.{length}
use Rattle.st_remarks.proofs.part.lost_rename.Given as goal

abbrev pub decreases-loop-spot : goal.decreases-loop-spot
decreases-loop-spot l = length l.words.rest.now
