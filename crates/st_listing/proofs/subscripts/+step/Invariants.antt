use Rattle.std.proofs.Common.{length}
use Rattle.st_listing.proofs.subscripts.+step.Given as goal

abbrev pub decreases-step : goal.decreases-step
decreases-step l = length l.ranges.now
