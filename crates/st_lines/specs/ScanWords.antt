-- The words of a scan: its moment, and pairs of a path and a value.
use Rattle.std.specs.Prelude.{ℕ, ◌≡◌, ◌==◌, ◌<◌, ◌+◌, ◌^◌, Bool, if◌then◌else◌, nat_lt, List, [], ◌∷◌, codes, drop, length, map, min, slice_index, take, ℤ, pos, Option, Some, None, option_map}
use Rattle.std.specs.Char.{digit_value}
use Rattle.std.specs.List.{list_any}
use Rattle.st_values.specs.Numbers.{digits_read}
use Rattle.st_values.specs.Words.{begins_with}

-- ---- digits

-- a decimal digit of this value stands here in a text
abbrev pub IsDigitAt : List ℕ → ℕ → ℕ → Type 0
IsDigitAt text at digit = (at < length text) × (digit ≡ digit_value (slice_index text at)) × (digit < 10)

-- ---- moments

-- the first moment that is too late, which stands for all of them
abbrev pub too_late : ℕ
too_late = 10 ^ 15 + 1

-- the moment of a number of milliseconds
abbrev pub moment_of : ℕ → ℤ
moment_of number = pos (min number too_late)

abbrev pub is_underscore : ℕ → Bool
is_underscore byte = byte == 95

-- the moment that a word is, where it has decimal digits alone
abbrev pub moment_read : List ℕ → Option ℤ
moment_read word = if list_any is_underscore word then None else option_map moment_of (digits_read 10 word)

-- the moment that the first of some words is
abbrev pub first_moment : List (List ℕ) → Option ℤ
first_moment [] = None
first_moment (word ∷ words) = moment_read word

-- the first of some words is this moment, and the others stand after it
pub record HasMomentFirst (moment : ℤ) (others words : List (List ℕ)) : Type 0 where
  pub word : List ℕ
  pub split : words ≡ word ∷ others
  pub reads : moment_read word ≡ Some moment

-- ---- pairs

-- a path, and a value as a text
pub record Pair : Type 0 where
  pub path : List ℕ
  pub given : List ℕ

-- how many bytes of a word stand before its first `:=`: all, where there is none
abbrev pub bytes_before : List ℕ → ℕ
bytes_before [] = 0
bytes_before (byte ∷ rest) = if begins_with (codes ":=") (byte ∷ rest) then 0 else 1 + bytes_before rest

-- a word is a pair: it has a `:=`
abbrev pub is_pair : List ℕ → Bool
is_pair word = nat_lt (bytes_before word) (length word)

-- the pair that a word is: it is cut at its first `:=`
abbrev pub pair_of : List ℕ → Pair
pair_of word = record { path = take (bytes_before word) word; given = drop 2 (drop (bytes_before word) word) }

-- the pairs that words are
abbrev pub pairs_of : List (List ℕ) → List Pair
pairs_of words = map pair_of words
