-- Durations in texts (IEC 61131-3:2003, 2.2.3.1, table 7).
use Rattle.std.specs.Char.{is_ascii_alphabetic, is_digit}
use Rattle.std.specs.List.{after_first, before_first, list_all}
use Rattle.std.specs.Prelude.{◌≡◌, ◌++◌, true, ℕ, ◌+◌, ◌*◌, ◌/◌, ◌%◌, ◌^◌, Bool, ◌&&◌, ◌==◌, not, nat_lt, if◌then◌else◌, List, [], ◌∷◌, codes, drop, length, slice_index, take_while, ℤ, pos, Option, Some, None, option_and_then, option_map, is_some, position}
use Rattle.std.specs.Str.{byte}
use Rattle.std.specs.Str.Parse.{digits_value}
use Rattle.st_values.specs.Numbers.{digits_read, negative}
use Rattle.st_values.specs.Words.{after, begins_with_word, is_word}
use Rattle.st_values.specs.declared.duration.TimeUnit.{TimeUnit}
use Rattle.st_values.specs.declared.duration.TimeUnit.TheVariants.{Days, Hours, Minutes, Seconds, Milliseconds}

abbrev pub letters_of : TimeUnit → List ℕ
letters_of Days = codes "D"
letters_of Hours = codes "H"
letters_of Minutes = codes "M"
letters_of Seconds = codes "S"
letters_of Milliseconds = codes "MS"

abbrev pub milliseconds_of : TimeUnit → ℕ
milliseconds_of Days = 24 * 60 * 60 * 1000
milliseconds_of Hours = 60 * 60 * 1000
milliseconds_of Minutes = 60 * 1000
milliseconds_of Seconds = 1000
milliseconds_of Milliseconds = 1

-- the units, from large to small
abbrev pub units : List TimeUnit
units = Days ∷ Hours ∷ Minutes ∷ Seconds ∷ Milliseconds ∷ []

-- the first part of a text: what stands before the first letter, ..
abbrev pub part_number : List ℕ → List ℕ
part_number text = take_while (λ c. not (is_ascii_alphabetic c)) text

-- .. the letters that stand there, ..
abbrev pub part_letters : List ℕ → List ℕ
part_letters text = take_while is_ascii_alphabetic (after (part_number text) text)

-- .. and what follows them
abbrev pub part_rest : List ℕ → List ℕ
part_rest text = after (part_letters text) (after (part_number text) text)

-- the sum, where both are there
abbrev pub sum_of : Option ℕ → Option ℕ → Option ℕ
sum_of a b = option_and_then (λ m. option_map (λ n. m + n) b) a

-- so many of a unit, in milliseconds
abbrev pub amount_read : TimeUnit → List ℕ → Option ℕ
amount_read unit number = option_map (λ n. n * milliseconds_of unit) (digits_read 10 number)

-- so many tenths, hundredths .. of a unit, where they are a whole number of milliseconds
abbrev pub fraction_read : TimeUnit → List ℕ → Option ℕ
fraction_read unit digits =
    let share = digits_value 10 digits * milliseconds_of unit in
    if nat_lt 0 (length digits) && (list_all (λ c. is_digit c 10) digits && (share % 10 ^ length digits == 0)) then Some (share / 10 ^ length digits) else None

abbrev pub is_point : ℕ → Bool
is_point c = c == byte "."

-- the same of the last part's number, which may have a fraction
abbrev pub last_amount_read : TimeUnit → List ℕ → Option ℕ
last_amount_read unit number =
    if is_some (position is_point number) then sum_of (amount_read unit (before_first is_point number)) (fraction_read unit (after_first is_point number))
    else amount_read unit number

-- between two parts there may be a `_`
abbrev pub without_underscore : List ℕ → List ℕ
without_underscore text = if slice_index text 0 == byte "_" then drop 1 text else text

-- the milliseconds of a whole text of parts, each with a unit of these, from large to small
abbrev pub parts_read : List TimeUnit → List ℕ → Option ℕ
parts_read [] text = None
parts_read (unit ∷ smaller) text =
    if not (is_word (letters_of unit) (part_letters text)) then parts_read smaller text
    else if length (part_rest text) == 0 then last_amount_read unit (part_number text)
    else sum_of (amount_read unit (part_number text)) (parts_read smaller (without_underscore (part_rest text)))

-- the milliseconds of a whole text of parts
unfoldable pub interval_read : List ℕ → Option ℕ
interval_read text = parts_read units text

-- the grammar of an interval: parts, each with a unit of these, from large to small, and the milliseconds that they are
pub data IsInterval : List TimeUnit → List ℕ → ℕ → Type 0 where
  -- the last part
  last_part : {unit : TimeUnit} {smaller : List TimeUnit} {n : ℕ} (number letters : List ℕ)
      → amount_read unit number ≡ Some n → is_word (letters_of unit) letters ≡ true
      → IsInterval (unit ∷ smaller) (number ++ letters) n
  -- the last part, with a fraction
  last_part_with_fraction : {unit : TimeUnit} {smaller : List TimeUnit} {m n : ℕ} (number digits letters : List ℕ)
      → amount_read unit number ≡ Some m → fraction_read unit digits ≡ Some n → is_word (letters_of unit) letters ≡ true
      → IsInterval (unit ∷ smaller) (number ++ byte "." ∷ digits ++ letters) (m + n)
  -- a part, and smaller ones directly after it or after a `_`
  part : {unit : TimeUnit} {smaller : List TimeUnit} {m n : ℕ} (number letters rest : List ℕ)
      → amount_read unit number ≡ Some m → is_word (letters_of unit) letters ≡ true → IsInterval smaller rest n
      → IsInterval (unit ∷ smaller) (number ++ letters ++ rest) (m + n)
  part_and_underscore : {unit : TimeUnit} {smaller : List TimeUnit} {m n : ℕ} (number letters rest : List ℕ)
      → amount_read unit number ≡ Some m → is_word (letters_of unit) letters ≡ true → IsInterval smaller rest n
      → IsInterval (unit ∷ smaller) (number ++ letters ++ byte "_" ∷ rest) (m + n)
  -- no part of this unit
  left_out : {unit : TimeUnit} {smaller : List TimeUnit} {text : List ℕ} {n : ℕ} → IsInterval smaller text n → IsInterval (unit ∷ smaller) text n

-- the same after an optional `-`
abbrev pub signed_interval_read : List ℕ → Option ℤ
signed_interval_read text =
    if slice_index text 0 == byte "-" then option_map negative (interval_read (drop 1 text))
    else option_map pos (interval_read text)

-- the milliseconds that a whole text is, where it is a duration
abbrev pub duration_read : List ℕ → Option ℤ
duration_read text =
    if begins_with_word (codes "T#") text then signed_interval_read (after (codes "T#") text)
    else if begins_with_word (codes "TIME#") text then signed_interval_read (after (codes "TIME#") text)
    else None
