-- Rows of tables, with what they say in their places.
use Rattle.std.specs.Prelude.{ℕ, ◌-◌, if◌then◌else◌, List, [], ◌∷◌, Option, Some, None, chars, decimal, encode_utf8, flat_map, map, slice_get}
use Rattle.std.specs.Int.{is_in_range}
use Rattle.std.specs.Option.{unwrap_or}
use Rattle.st_messages.specs.Drafts.{quoted}
use Rattle.st_messages.specs.Shown.{shown}
use Rattle.st_messages.specs.declared.saying.Slot.{Slot}
use Rattle.st_messages.specs.declared.saying.Slot.TheVariants as slots

-- what stands in one place
abbrev pub slot_text : Slot → List ℕ
slot_text (slots.Name name) = quoted (shown name.now)
slot_text (slots.Bytes bytes) = shown bytes.now
slot_text (slots.Number number) = decimal number
slot_text (slots.Words words) = words.now

abbrev pub slot_texts : List Slot → List (List ℕ)
slot_texts given = map slot_text given

-- the place that a character of a row keeps, from 0: `①` to `⑨` do
abbrev pub hole_number : ℕ → Option ℕ
hole_number c = if is_in_range 0x2460 0x2468 c then Some (c - 0x2460) else None

-- what stands for a character: the text of its place, where it keeps one, or the character itself
abbrev pub piece_at : List (List ℕ) → ℕ → Option ℕ → List ℕ
piece_at texts c None = encode_utf8 c
piece_at texts c (Some number) = unwrap_or (slice_get texts number) []

abbrev pub piece : List (List ℕ) → ℕ → List ℕ
piece texts c = piece_at texts c (hole_number c)

-- the words of a row, with these texts in its places
unfoldable pub filled : List (List ℕ) → List ℕ → List ℕ
filled texts row = flat_map (piece texts) (chars row)

-- what stands in the first place, where that is a name and the only one
abbrev pub one_name : List ℕ → List (List ℕ)
one_name name = quoted (shown name) ∷ []
