use Rattle.std.proofs.Common.{◌≡◌, ◌++◌, IsUtf8, string_bytes}
use Rattle.std.specs.Str.Iter.{chars_rest}
use Rattle.st_messages.specs.Rows.{filled, slot_texts}
use Rattle.st_messages.proofs.saying.filled.Given as goal

-- what was put there, with the words that are left, is all that the row says
abbrev pub invariant-loop-character : goal.invariant-loop-character
invariant-loop-character l = IsUtf8 (chars_rest l.character-iterator)
    × (string_bytes l.text ++ filled (slot_texts l.slots) (chars_rest l.character-iterator) ≡ filled (slot_texts l.slots) l.fn.row)
