-- What stands behind the lexeme that begins a text: a token, or what begins none, or a comment.
use Rattle.std.specs.Prelude.{ℕ, ◌&&◌, ◌==◌, nat_lt, if◌then◌else◌, List, [], ◌∷◌, drop, slice_index, codes, Option, Some, None, option_map, is_some}
use Rattle.std.specs.Borrow.{Bor}
use Rattle.std.specs.Int.{is_in_range}
use Rattle.std.specs.Str.{byte}
use Rattle.st_values.specs.Words.{after, begins_with, is_word_byte}
use Rattle.st_tokens.specs.Scanning.{after_run, double, interval_rest, is_duration_word, run}

-- behind an optional sign
abbrev pub after_sign : List ℕ → List ℕ
after_sign text =
    if slice_index text 0 == byte "-" then drop 1 text
    else if slice_index text 0 == byte "+" then drop 1 text
    else text

-- behind an optional `#` and the digits of a base
abbrev pub after_base : List ℕ → List ℕ
after_base text = if begins_with (codes "#") text then after_run (after (codes "#") text) else text

-- behind a literal, which begins behind the name of a type and `#`
abbrev pub after_literal : List ℕ → List ℕ
after_literal text = after_base (after_run (after_sign text))

-- behind the parts of a duration, which begin behind its `#`
abbrev pub after_interval : List ℕ → List ℕ
after_interval text = interval_rest (after_sign text)

-- behind what begins with this word and `#`
abbrev pub after_prefix : List ℕ → List ℕ → List ℕ
after_prefix word text = if is_duration_word word then after_interval text else after_literal text

-- behind a word, or a literal that begins with one
abbrev pub after_word : List ℕ → List ℕ
after_word text =
    if begins_with (codes "#") (after_run text) then after_prefix (run text) (after (codes "#") (after_run text))
    else after_run text

-- a character of UTF-8 goes on with these bytes
abbrev pub after_continued : List ℕ → List ℕ
after_continued [] = []
after_continued (b ∷ bs) = if is_in_range 0x80 0xBF b then after_continued bs else b ∷ bs

-- behind a character that begins with this byte
abbrev pub after_character : ℕ → List ℕ → List ℕ
after_character first text = if nat_lt first 0x80 then text else after_continued text

-- behind a symbol, or a character that is none
abbrev pub after_symbol : List ℕ → List ℕ
after_symbol [] = []
after_symbol (b ∷ []) = []
after_symbol (b ∷ c ∷ bs) = if is_some (double b c) then bs else after_character b (c ∷ bs)

-- behind a token, or a character that begins none
abbrev pub after_token : List ℕ → List ℕ
after_token text = if is_word_byte (slice_index text 0) then after_word text else after_symbol text

-- behind the first `*)`
abbrev pub after_comment : List ℕ → Option (List ℕ)
after_comment [] = None
after_comment (b ∷ []) = None
after_comment (b ∷ c ∷ bs) = if b == 42 && c == 41 then Some bs else after_comment (c ∷ bs)

-- what the code found
abbrev pub seen : Option (Bor (List ℕ)) → Option (List ℕ)
seen found = option_map (λ rest. rest.now) found
