use Rattle.std.proofs.Common.{◌≡◌, ◌≤◌, ◌-◌, length, drop, nat_lt}
use Rattle.std.specs.List.{position_or_len}
use Rattle.st_devices.specs.Words.{is_blank}
use Rattle.st_lines.specs.ScanWords.{moment_read, too_late}
use Rattle.st_lines.proofs.MomentLemmas.{rest_moment, word_of}
use Rattle.st_lines.proofs.pairs.split_moment.Given as goal

-- the moment so far, and what the rest of the word makes of it
abbrev pub invariant-loop-digit : goal.invariant-loop-digit
invariant-loop-digit l = record {
  within : l.at ≤ length l.text;
  in_word : l.at ≤ position_or_len is_blank l.text;
  small : l.moment ≤ too_late;
  told : rest_moment (nat_lt 0 l.at) l.moment (drop l.at (word_of l.text)) ≡ moment_read (word_of l.text);
}

abbrev pub decreases-loop-digit : goal.decreases-loop-digit
decreases-loop-digit l = length l.text - l.at
