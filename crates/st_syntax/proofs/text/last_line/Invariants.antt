use Rattle.std.proofs.Common.{◌≡◌, ◌≤◌, ◌+◌, take}
use Rattle.std.specs.List.{sum_by}
use Rattle.st_tokens.specs.Characters.{line_end}
use Rattle.st_syntax.proofs.text.last_line.Given as goal

abbrev pub invariant-loop-byte : goal.invariant-loop-byte
invariant-loop-byte l = record {
  value : l.line ≡ 1 + sum_by line_end (take l.byte-index l.before);
  small : l.line ≤ 1 + l.byte-index;
}
