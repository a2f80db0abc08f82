use Rattle.std.proofs.Common.{length, ◌-◌, ◌≤◌}
use Rattle.st_messages.proofs.source.end_of.Given as goal

abbrev pub invariant-loop-start : goal.invariant-loop-start
invariant-loop-start l = l.start ≤ length l.line

abbrev pub decreases-loop-start : goal.decreases-loop-start
decreases-loop-start l = length l.line - l.start
