use Rattle.std.proofs.Common.{length, ◌≡◌, ◌<◌, ◌+◌, ◌^◌}
use Rattle.st_tokens.specs.Scanning as spec
use Rattle.st_tokens.proofs.comment.comment_at.Given as goal

-- no `*)` has come so far
abbrev pub invariant-loop-rest : goal.invariant-loop-rest
invariant-loop-rest l = record {
  lines : l.line + length l.rest < 2 ^ 32;
  same : spec.comment_at l.line l.rest ≡ spec.comment_at l.fn.line l.text;
}

abbrev pub decreases-loop-rest : goal.decreases-loop-rest
decreases-loop-rest l = length l.rest
