use Rattle.std.proofs.Common.{length, ◌≤◌, ◌+◌}
use Rattle.st_tokens.proofs.Reading.{Reads}
use Rattle.st_tokens.proofs.scan.scan.Given as goal

-- what is left decides about the tokens that are left, and each token that was found has a byte before it
abbrev pub invariant-loop-rest : goal.invariant-loop-rest
invariant-loop-rest l = record {
  lines : l.line + length l.rest ≤ 1 + length l.text;
  count : length l.found.items + length l.rest ≤ length l.text;
  reads : Reads l.text l.found.items l.line l.rest;
}

abbrev pub decreases-loop-rest : goal.decreases-loop-rest
decreases-loop-rest l = length l.rest
