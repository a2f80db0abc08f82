-- Words, and what texts begin with.
use Rattle.std.specs.Char.{is_ascii_alphanumeric, to_ascii_uppercase}
use Rattle.std.specs.List.{starts_with}
use Rattle.std.specs.Prelude.{◌≡◌, ℕ, Bool, true, ◌||◌, ◌==◌, List, [], ◌∷◌, drop, length, map, nat_eq, take}
use Rattle.std.specs.Str.{byte, str_eq_ignore_ascii_case}

-- a word goes on with letters, digits and `_`
abbrev pub is_word_byte : ℕ → Bool
is_word_byte b = is_ascii_alphanumeric b || b == byte "_"

-- letters, digits and `_` alone
abbrev pub AreWordBytes : List ℕ → Type 0
AreWordBytes [] = Unit {0}
AreWordBytes (b ∷ bs) = (is_word_byte b ≡ true) × AreWordBytes bs

-- a text in upper case
abbrev pub raised : List ℕ → List ℕ
raised text = map to_ascii_uppercase text

abbrev pub begins_with : List ℕ → List ℕ → Bool
begins_with start text = starts_with nat_eq text start

-- the same word, ignoring case
abbrev pub is_word : List ℕ → List ℕ → Bool
is_word word text = str_eq_ignore_ascii_case text word

-- whether a text begins with a word, ignoring case
abbrev pub begins_with_word : List ℕ → List ℕ → Bool
begins_with_word word text = is_word word (take (length word) text)

-- what stands after as many bytes as these
abbrev pub after : List ℕ → List ℕ → List ℕ
after start text = drop (length start) text
