use Rattle.std.proofs.Common.{◌≡◌, drop, false}
use Rattle.st_tokens.specs.Scanning.{is_clean_after}
use Rattle.st_tokens.proofs.word.is_clean.Given as goal

-- what is left decides
abbrev pub invariant-loop-byte : goal.invariant-loop-byte
invariant-loop-byte l = is_clean_after l.after_underscore (drop l.byte-index l.word) ≡ is_clean_after false l.word
