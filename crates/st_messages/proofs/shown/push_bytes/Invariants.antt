use Rattle.std.proofs.Common.{◌≡◌, ◌++◌, drop, string_bytes}
use Rattle.st_messages.specs.Shown.{bytes_shown}
use Rattle.st_messages.proofs.shown.push_bytes.Given as goal

-- what was put there, with what is left to show, is what is shown of all
abbrev pub invariant-loop-byte : goal.invariant-loop-byte
invariant-loop-byte l = string_bytes l.message ++ bytes_shown (drop l.byte-index l.bytes) ≡ string_bytes l.fn.message ++ bytes_shown l.bytes
