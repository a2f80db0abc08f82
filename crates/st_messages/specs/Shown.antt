-- Bytes as they are shown.
use Rattle.std.specs.Prelude.{ℕ, zero, suc, ◌/◌, ◌%◌, ◌==◌, ◌||◌, ◌&&◌, not, Bool, false, if◌then◌else◌, List, [], ◌∷◌, ◌++◌, chars, codes, drop, encode_utf8, flat_map, length, nat_lt, take}
use Rattle.std.specs.Char.{is_control}
use Rattle.std.specs.Fmt.{digits}
use Rattle.std.specs.Int.{is_in_range}
use Rattle.std.specs.Str.Lossy.{after_first_chunk, utf8_invalid_len, utf8_valid_len}

-- a character that turns the direction of writing, or can't be seen
abbrev pub is_invisible : ℕ → Bool
is_invisible c =
    c == 0x061C || is_in_range 0x200B 0x200F c || is_in_range 0x2028 0x202E c || is_in_range 0x2060 0x206F c || c == 0xFEFF

-- a character that is shown by its number: a control character but the tab, or one that can't be seen
abbrev pub is_hidden : ℕ → Bool
is_hidden c = not (c == 9) && (is_control c || is_invisible c)

-- a byte by its number, in two hexadecimal digits
abbrev pub byte_shown : ℕ → List ℕ
byte_shown b = codes "\\x" ++ (digits 16 false (b / 16) ++ digits 16 false (b % 16))

-- a character by its number
abbrev pub number_shown : ℕ → List ℕ
number_shown c = if nat_lt c 0x80 then byte_shown c else codes "\\u{" ++ (digits 16 false c ++ codes "}")

-- a character: as it is, or by its number
abbrev pub character_shown : ℕ → List ℕ
character_shown c = if is_hidden c then number_shown c else encode_utf8 c

-- a text, character by character
abbrev pub text_shown : List ℕ → List ℕ
text_shown text = flat_map character_shown (chars text)

-- bytes that are no text, each by its number
abbrev pub bytes_shown : List ℕ → List ℕ
bytes_shown bytes = flat_map byte_shown bytes

-- how many bytes behind the text at the front are no text, up to where text may begin again
abbrev pub invalid_front : List ℕ → List ℕ
invalid_front bytes = take (utf8_invalid_len (drop (utf8_valid_len bytes) bytes)) (drop (utf8_valid_len bytes) bytes)

-- the longest text at the front, the bytes behind it that are none, and what follows them, in no more than so many turns
abbrev pub shown_within : ℕ → List ℕ → List ℕ
shown_within zero bytes = []
shown_within (suc turns) bytes =
    text_shown (take (utf8_valid_len bytes) bytes) ++ (bytes_shown (invalid_front bytes) ++ shown_within turns (after_first_chunk bytes))

-- any bytes
unfoldable pub shown : List ℕ → List ℕ
shown bytes = shown_within (length bytes) bytes
