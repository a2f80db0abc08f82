-- The words of a line.
use Rattle.std.specs.Prelude.{ℕ, ◌==◌, ◌||◌, ◌<◌, not, Bool, List, length, filter}
use Rattle.std.specs.List.{position_or_len, slice_split}

-- a space or a tab, which separate words
abbrev pub is_blank : ℕ → Bool
is_blank byte = (byte == 32) || (byte == 9)

abbrev pub has_bytes : List ℕ → Bool
has_bytes part = not (length part == 0)

-- the words of a line: the parts between blanks, but for empty ones
abbrev pub words_of : List ℕ → List (List ℕ)
words_of text = filter has_bytes (slice_split is_blank text)

-- where a text has bytes, it begins with a word
abbrev pub HasNoBlankFirst : List ℕ → Type 0
HasNoBlankFirst text = 0 < length text → 0 < position_or_len is_blank text
