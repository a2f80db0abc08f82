use Rattle.std.proofs.Common.{length, ◌-◌, ◌≡◌, ◌≤◌, ◌++◌, take, drop}
use Rattle.st_tokens.specs.Scanning.{run, after_run}
use Rattle.st_messages.proofs.skip.run_len.Given as goal

-- all bytes so far are a word's
abbrev pub invariant-loop-len : goal.invariant-loop-len
invariant-loop-len l = record {
  within : l.len ≤ length l.text;
  prefix : take l.len l.text ++ run (drop l.len l.text) ≡ run l.text;
  rest : after_run (drop l.len l.text) ≡ after_run l.text;
}

abbrev pub decreases-loop-len : goal.decreases-loop-len
decreases-loop-len l = length l.text - l.len
