use Rattle.std.proofs.Common.{◌≡◌, length}
use Rattle.st_messages.specs.Places.{line_from}
use Rattle.st_messages.proofs.place.last_line.Given as goal

abbrev pub invariant-loop-rest : goal.invariant-loop-rest
invariant-loop-rest l = line_from l.line l.rest ≡ line_from l.before l.before

abbrev pub decreases-loop-rest : goal.decreases-loop-rest
decreases-loop-rest l = length l.rest
