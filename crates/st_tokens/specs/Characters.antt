-- The character set (IEC 61131-3:2003, 2.1.1) and blanks (2.1.4).
use Rattle.std.specs.Prelude.{◌≡◌, ℕ, ◌+◌, Bool, true, ◌||◌, ◌==◌, if◌then◌else◌, List, [], ◌∷◌}
use Rattle.std.specs.Char.{is_ascii_alphabetic}
use Rattle.std.specs.Str.{byte}
use Rattle.st_values.specs.Words.{is_word_byte}

-- a word begins with a letter or `_`
abbrev pub begins_word : ℕ → Bool
begins_word b = is_ascii_alphabetic b || b == byte "_"

-- a letter, a digit or `_` comes first
abbrev pub BeginsWord : List ℕ → Type 0
BeginsWord [] = ⊥
BeginsWord (b ∷ bs) = is_word_byte b ≡ true

-- tab, line feed, carriage return, space
abbrev pub is_blank : ℕ → Bool
is_blank b = b == 9 || b == 10 || b == 13 || b == 32

-- a line ends after its line feed
abbrev pub line_end : ℕ → ℕ
line_end b = if b == 10 then 1 else 0

-- how many lines end in a text
abbrev pub line_ends : List ℕ → ℕ
line_ends [] = 0
line_ends (b ∷ bs) = line_end b + line_ends bs
