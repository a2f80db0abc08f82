use Rattle.std.proofs.Common.{ℕ, ◌≡◌, ◌+◌, ◌-◌, ◌^◌, ◌<◌, Some}
use Rattle.st_layout.specs.Pairs.{number_at}
use Rattle.st_layout.proofs.runs.end_of_run.Given as goal

-- the numbers so far follow one another, up to the last one
abbrev pub invariant-loop-place : goal.invariant-loop-place
invariant-loop-place l = record {
  kept : (k : ℕ) → l.first + k < l.place → number_at l.numbers (l.first + k) ≡ Some (l.to + k);
  last : l.last + 1 ≡ l.to + (l.place - l.first);
  fits : l.last < 2 ^ 32;
}
