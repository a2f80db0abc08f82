use Rattle.std.proofs.Common.{length}
use Rattle.st_values.proofs.duration.+read_parts.Given as goal

abbrev pub decreases-read_parts : goal.decreases-read_parts
decreases-read_parts l = length l.units.now
