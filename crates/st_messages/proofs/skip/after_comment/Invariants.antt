use Rattle.std.proofs.Common.{◌≡◌, length}
use Rattle.st_messages.specs.Skips as spec
use Rattle.st_messages.proofs.skip.after_comment.Given as goal

-- no `*)` has come so far
abbrev pub invariant-loop-rest : goal.invariant-loop-rest
invariant-loop-rest l = spec.after_comment l.rest ≡ spec.after_comment l.text

abbrev pub decreases-loop-rest : goal.decreases-loop-rest
decreases-loop-rest l = length l.rest
