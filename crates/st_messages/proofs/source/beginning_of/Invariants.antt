use Rattle.std.proofs.Common.{length, ◌<◌}
use Rattle.st_messages.proofs.source.beginning_of.Given as goal

abbrev pub invariant-loop-len : goal.invariant-loop-len
invariant-loop-len l = l.len < length l.line

abbrev pub decreases-loop-len : goal.decreases-loop-len
decreases-loop-len l = l.len
