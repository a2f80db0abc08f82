-- Numbers in texts (IEC 61131-3:2003, 2.2.1, table 4).
use Rattle.std.specs.Char.{is_digit}
use Rattle.std.specs.Prelude.{◌≡◌, ℕ, ◌+◌, ◌^◌, min, Bool, true, false, ◌&&◌, ◌==◌, not, if◌then◌else◌, List, [], ◌∷◌, codes, filter, ℤ, pos, negsuc, neg_ℤ, Option, Some, None}
use Rattle.std.specs.Str.{byte}
use Rattle.std.specs.Str.Parse.{digits_value}
use Rattle.st_values.specs.Words.{after, begins_with}

-- whether each byte is a digit of the base or a `_`, and each `_` stands between two digits;
-- the flag says that a digit stands before the text
abbrev pub are_digits : ℕ → Bool → List ℕ → Bool
are_digits base after_digit [] = after_digit
are_digits base after_digit (c ∷ text) =
    if c == byte "_" then after_digit && are_digits base false text
    else is_digit c base && are_digits base true text

-- digits of a base, with single `_` between them
pub data AreDigits (base : ℕ) : List ℕ → Type 0 where
  -- a digit alone
  one : {c : ℕ} → is_digit c base ≡ true → AreDigits base (c ∷ [])
  -- a digit, and digits directly after it
  more : {c : ℕ} {text : List ℕ} → is_digit c base ≡ true → AreDigits base text → AreDigits base (c ∷ text)
  -- a digit, a `_`, and digits after it
  apart : {c : ℕ} {text : List ℕ} → is_digit c base ≡ true → AreDigits base text → AreDigits base (c ∷ byte "_" ∷ text)

-- the digits of a number: a `_` means nothing
abbrev pub without_underscores : List ℕ → List ℕ
without_underscores text = filter (λ c. not (c == byte "_")) text

-- the number that a whole text of digits of a base is, where it is one: the law `digits_are_their_number` says it by the relation
abbrev pub digits_read : ℕ → List ℕ → Option ℕ
digits_read base text =
    if are_digits base false text then Some (digits_value base (without_underscores text)) else None

-- the number that a whole text is: digits of base 16, 8 or 2 after `16#`, `8#` or `2#`, else decimal digits
abbrev pub number_read : List ℕ → Option ℕ
number_read text =
    if begins_with (codes "16#") text then digits_read 16 (after (codes "16#") text)
    else if begins_with (codes "8#") text then digits_read 8 (after (codes "8#") text)
    else if begins_with (codes "2#") text then digits_read 2 (after (codes "2#") text)
    else digits_read 10 text

-- what no elementary type holds
abbrev pub too_much : ℕ
too_much = 2 ^ 64

-- what a number counts as: all that no type holds counts as the same
abbrev pub capped : ℕ → ℕ
capped number = min number too_much

-- the number below zero, or 0
abbrev pub negative : ℕ → ℤ
negative n = neg_ℤ (pos n)

-- what a number with a sign counts as
abbrev pub capped_signed : ℤ → ℤ
capped_signed (pos n) = pos (capped n)
capped_signed (negsuc n) = negative (capped (n + 1))
