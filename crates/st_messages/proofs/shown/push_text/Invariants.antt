use Rattle.std.proofs.Common.{◌≡◌, ◌++◌, IsUtf8, string_bytes}
use Rattle.std.specs.Str.Iter.{chars_rest}
use Rattle.st_messages.specs.Shown.{text_shown}
use Rattle.st_messages.proofs.shown.push_text.Given as goal

-- what was put there, with what is left to show, is what is shown of all
abbrev pub invariant-loop-character : goal.invariant-loop-character
invariant-loop-character l = IsUtf8 (chars_rest l.character-iterator)
    × (string_bytes l.message ++ text_shown (chars_rest l.character-iterator) ≡ string_bytes l.fn.message ++ text_shown l.fn.text)
