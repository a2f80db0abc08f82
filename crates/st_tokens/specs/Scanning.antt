-- The token at the start of a text, byte by byte.
use Rattle.std.specs.Prelude.{ℕ, ◌+◌, ◌-◌, Bool, false, ◌&&◌, ◌||◌, not, ◌==◌, if◌then◌else◌, List, [], ◌∷◌, ◌++◌, length, drop, Option, Some, None, option_map, option_and_then, slice_index, codes, ℤ, pos}
use Rattle.std.specs.Borrow.{Bor}
use Rattle.std.specs.Char.{is_ascii_digit}
use Rattle.std.specs.Str.{byte, bytes_eq}
use Rattle.st_values.specs.declared.elem.Class.{Class}
use Rattle.st_values.specs.declared.elem.Class.TheVariants.{Boolean, Integer, BitString, Duration}
use Rattle.st_values.specs.declared.elem.Elem.{Elem}
use Rattle.st_values.specs.Durations.{interval_read}
use Rattle.st_values.specs.Numbers.{capped, digits_read, negative}
use Rattle.st_values.specs.Words.{after, begins_with, is_word, is_word_byte}
use Rattle.st_values.specs.Types.{class_of}
use Rattle.st_tokens.specs.declared.keyword.Keyword.{Keyword}
use Rattle.st_tokens.specs.declared.symbol.Symbol.{Symbol}
use Rattle.st_tokens.specs.declared.symbol.Symbol.TheVariants as symbols
use Rattle.st_tokens.specs.declared.token.Kind.{Kind}
use Rattle.st_tokens.specs.declared.token.Kind.TheVariants as token_kinds
use Rattle.st_tokens.specs.Characters.{begins_word, line_end}
use Rattle.st_tokens.specs.Forms.{time_of}
use Rattle.st_tokens.specs.Words.{keyword_of, elem_of}

-- what the code found, and what stands after it
abbrev pub seen : {A : Type 0} → Option (A × Bor (List ℕ)) → Option (A × List ℕ)
seen found = option_map (λ f. (f.0, f.1.now)) found

-- the longest prefix of bytes of a word, and what stands after it
abbrev pub run : List ℕ → List ℕ
run [] = []
run (b ∷ bs) = if is_word_byte b then b ∷ run bs else []

abbrev pub after_run : List ℕ → List ℕ
after_run [] = []
after_run (b ∷ bs) = if is_word_byte b then after_run bs else b ∷ bs

-- no two `_` in a row, and none at the end; the flag says that a `_` stands before
abbrev pub is_clean_after : Bool → List ℕ → Bool
is_clean_after underscore [] = not underscore
is_clean_after underscore (b ∷ bs) = not (underscore && b == byte "_") && is_clean_after (b == byte "_") bs

abbrev pub is_clean : List ℕ → Bool
is_clean w = is_clean_after false w

-- ---- numbers

-- a base as a number has it before its `#`
abbrev pub base_of : List ℕ → Option ℕ
base_of w = if bytes_eq w (codes "16") then Some 16 else if bytes_eq w (codes "8") then Some 8 else if bytes_eq w (codes "2") then Some 2 else None

-- digits of a base
unfoldable pub digits_at : ℕ → List ℕ → Option (ℕ × List ℕ)
digits_at base text = option_map (λ n. (capped n, after_run text)) (digits_read base (run text))

-- a number without a sign
unfoldable pub number_at : List ℕ → Option (ℕ × List ℕ)
number_at text =
    if begins_with (codes "#") (after_run text)
    then option_and_then (λ base. digits_at base (after (codes "#") (after_run text))) (base_of (run text))
    else digits_at 10 text

-- ---- literals

abbrev pub positive_found : ℕ × List ℕ → ℤ × List ℕ
positive_found found = (pos found.0, found.1)

abbrev pub negative_found : ℕ × List ℕ → ℤ × List ℕ
negative_found found = (negative found.0, found.1)

-- a number that may have a sign where it is decimal
unfoldable pub signed_at : List ℕ → Option (ℤ × List ℕ)
signed_at text =
    if slice_index text 0 == byte "-" then option_map negative_found (digits_at 10 (drop 1 text))
    else if slice_index text 0 == byte "+" then option_map positive_found (digits_at 10 (drop 1 text))
    else option_map positive_found (number_at text)

-- a number, or TRUE or FALSE
unfoldable pub boolean_at : List ℕ → Option (ℤ × List ℕ)
boolean_at text =
    if is_word (codes "TRUE") (run text) then Some (pos 1, after_run text)
    else if is_word (codes "FALSE") (run text) then Some (pos 0, after_run text)
    else signed_at text

-- what stands after the `#` of a typed literal
unfoldable pub literal_at : Class → List ℕ → Option (ℤ × List ℕ)
literal_at Boolean text = boolean_at text
literal_at Integer text = signed_at text
literal_at BitString text = signed_at text
literal_at Duration text = None

abbrev pub typed_found : Elem → ℤ × List ℕ → Kind × List ℕ
typed_found elem found = (token_kinds.Typed elem found.0, found.1)

-- a typed literal, after its type and `#`
unfoldable pub typed_at : List ℕ → List ℕ → Option (Kind × List ℕ)
typed_at w text = option_and_then (λ elem. option_map (typed_found elem) (literal_at (class_of elem) text)) (elem_of w)

abbrev pub is_duration_word : List ℕ → Bool
is_duration_word w = is_word (codes "T") w || is_word (codes "TIME") w

-- the last byte is a digit
abbrev pub ends_in_digit : List ℕ → Bool
ends_in_digit w = is_ascii_digit (slice_index w (length w - 1))

-- where a number is open and a `.` follows, the number goes on
abbrev pub has_fraction : List ℕ → Bool
has_fraction text = ends_in_digit (run text) && begins_with (codes ".") (after_run text)

abbrev pub fraction_of : List ℕ → List ℕ
fraction_of text = after (codes ".") (after_run text)

-- the bytes that the parts of a duration may have, and what stands after them
abbrev pub interval_prefix : List ℕ → List ℕ
interval_prefix text = if has_fraction text then run text ++ byte "." ∷ run (fraction_of text) else run text

abbrev pub interval_rest : List ℕ → List ℕ
interval_rest text = if has_fraction text then after_run (fraction_of text) else after_run text

-- the parts of a duration
unfoldable pub interval_at : List ℕ → Option (ℕ × List ℕ)
interval_at text = option_map (λ n. (capped n, interval_rest text)) (interval_read (interval_prefix text))

-- the same after an optional `-`
unfoldable pub signed_interval_at : List ℕ → Option (ℤ × List ℕ)
signed_interval_at text =
    if slice_index text 0 == byte "-" then option_map negative_found (interval_at (drop 1 text))
    else option_map positive_found (interval_at text)

abbrev pub duration_found : ℤ × List ℕ → Kind × List ℕ
duration_found found = (token_kinds.Duration (time_of found.0), found.1)

-- a duration, after its `#`
unfoldable pub duration_at : List ℕ → Option (Kind × List ℕ)
duration_at text = option_map duration_found (signed_interval_at text)

-- a literal that begins with this word and `#`
unfoldable pub prefixed_at : List ℕ → List ℕ → Option (Kind × List ℕ)
prefixed_at w text = if is_duration_word w then duration_at text else typed_at w text

-- ---- words

abbrev pub kind_by : List ℕ → Option Keyword → Option Elem → Kind
kind_by w (Some keyword) elem = token_kinds.Keyword keyword
kind_by w None (Some elem) = token_kinds.Type elem
kind_by w None None = token_kinds.Word w

unfoldable pub word_kind : List ℕ → Kind
word_kind w = kind_by w (keyword_of w) (elem_of w)

-- a word, or a literal that begins with one
unfoldable pub word_at : List ℕ → Option (Kind × List ℕ)
word_at text =
    if begins_with (codes "#") (after_run text) then prefixed_at (run text) (after (codes "#") (after_run text))
    else if is_clean (run text) then Some (word_kind (run text), after_run text)
    else None

-- ---- symbols

-- a symbol of two bytes
abbrev pub double : ℕ → ℕ → Option Symbol
double b c =
    if c == 61 then (if b == 58 then Some symbols.Assign else if b == 60 then Some symbols.LessEqual else if b == 62 then Some symbols.GreaterEqual else None)
    else if c == 62 then (if b == 60 then Some symbols.NotEqual else if b == 61 then Some symbols.Output else None)
    else if b == 46 && c == 46 then Some symbols.Range
    else None

-- a symbol of one byte
abbrev pub single : ℕ → Option Symbol
single b =
    if b == 40 then Some symbols.Open
    else if b == 41 then Some symbols.Close
    else if b == 91 then Some symbols.OpenBracket
    else if b == 93 then Some symbols.CloseBracket
    else if b == 44 then Some symbols.Comma
    else if b == 59 then Some symbols.Semicolon
    else if b == 58 then Some symbols.Colon
    else if b == 46 then Some symbols.Dot
    else if b == 43 then Some symbols.Plus
    else if b == 45 then Some symbols.Minus
    else if b == 42 then Some symbols.Times
    else if b == 47 then Some symbols.Divide
    else if b == 61 then Some symbols.Equal
    else if b == 60 then Some symbols.Less
    else if b == 62 then Some symbols.Greater
    else if b == 38 then Some symbols.Ampersand
    else if b == 37 then Some symbols.Percent
    else None

abbrev pub symbol_or : Option Symbol → List ℕ → Option (Kind × List ℕ) → Option (Kind × List ℕ)
symbol_or None rest other = other
symbol_or (Some x) rest other = Some (token_kinds.Symbol x, rest)

-- the symbol of two bytes, else that of one
unfoldable pub symbol_at : List ℕ → Option (Kind × List ℕ)
symbol_at [] = None
symbol_at (b ∷ []) = symbol_or (single b) [] None
symbol_at (b ∷ c ∷ bs) = symbol_or (double b c) bs (symbol_or (single b) (c ∷ bs) None)

abbrev pub number_found : ℕ × List ℕ → Kind × List ℕ
number_found found = (token_kinds.Number found.0, found.1)

-- the token at the start, and what stands after it
unfoldable pub token_at : List ℕ → Option (Kind × List ℕ)
token_at text =
    if is_ascii_digit (slice_index text 0) then option_map number_found (number_at text)
    else if begins_word (slice_index text 0) then word_at text
    else symbol_at text

-- after the first `*)`, and the line there
abbrev pub comment_at : ℕ → List ℕ → Option (ℕ × List ℕ)
comment_at line [] = None
comment_at line (b ∷ []) = None
comment_at line (b ∷ c ∷ bs) = if b == 42 && c == 41 then Some (line, bs) else comment_at (line + line_end b) (c ∷ bs)
