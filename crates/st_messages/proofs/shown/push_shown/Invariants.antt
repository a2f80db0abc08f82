use Rattle.std.proofs.Common.{◌≡◌, ℕ, ◌≤◌, ◌++◌, length, string_bytes}
use Rattle.std.specs.Str.Chunks.{utf8_chunks_rest}
use Rattle.st_messages.specs.Shown.{shown, shown_within}
use Rattle.st_messages.proofs.shown.push_shown.Given as goal

-- what was put there, with what is left to show, is what is shown of all
abbrev pub invariant-loop-chunk : goal.invariant-loop-chunk
invariant-loop-chunk l = (turns : ℕ) × (length (utf8_chunks_rest l.chunk-iterator) ≤ turns)
    × (string_bytes l.message ++ shown_within turns (utf8_chunks_rest l.chunk-iterator) ≡ string_bytes l.fn.message ++ shown l.fn.bytes)
