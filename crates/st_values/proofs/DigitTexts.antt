-- The digits of a number, read back.
use Rattle.std.proofs.Common.{◌≡◌, ℕ, ◌<◌, ◌≤◌, ◌^◌, Bool, true, false, List, [], ◌∷◌, refl, ap, ◌∙◌, arith}
use Rattle.std.proofs.lemmas.Fmt.{digits_is_IsNumeral}
use Rattle.std.proofs.lemmas.Str.Parse.{digit_from_value}
use Rattle.std.specs.Char.{digit_value}
use Rattle.std.specs.Fmt.{digits}
use Rattle.std.specs.Prelude.{Some}
use Rattle.std.specs.Str.Parse.{AllDigits, IsNumeral, digits_value}
use Rattle.st_values.proofs.Cases.{differs, is_below}
use Rattle.st_values.proofs.NumberLemmas.{no_underscore}
use Rattle.st_values.specs.Numbers.{are_digits, digits_read, without_underscores}

-- digits of a base are read as digits
are_digits-more : (base : ℕ) (ds : List ℕ) → base ≤ 16 → AllDigits base ds → are_digits base true ds ≡ true
are_digits-more base [] high all = refl
are_digits-more base (d ∷ ds) high all =
    rw (differs d 95 (no_underscore d base all.0 high), is_below (digit_value d) base all.0) (are_digits-more base ds high all.1)

are_digits-all : (base : ℕ) (ds : List ℕ) → base ≤ 16 → IsNumeral base ds → are_digits base false ds ≡ true
are_digits-all base [] high numeral = absurd (omega arith)
are_digits-all base (d ∷ ds) high numeral =
    rw (differs d 95 (no_underscore d base numeral.1.0 high), is_below (digit_value d) base numeral.1.0) (are_digits-more base ds high numeral.1.1)

pub without_underscores-digits : (base : ℕ) (ds : List ℕ) → base ≤ 16 → AllDigits base ds → without_underscores ds ≡ ds
without_underscores-digits base [] high all = refl
without_underscores-digits base (d ∷ ds) high all =
    rw (differs d 95 (no_underscore d base all.0 high)) (ap (λ (rest : List ℕ). d ∷ rest) (without_underscores-digits base ds high all.1))

pub digits_read-numeral : (base : ℕ) (ds : List ℕ) → base ≤ 16 → IsNumeral base ds → digits_read base ds ≡ Some (digits_value base ds)
digits_read-numeral base ds high numeral =
    rw (are_digits-all base ds high numeral, without_underscores-digits base ds high numeral.1) refl

pub digits_read-digits : (base n : ℕ) (upper : Bool) → 2 ≤ base → base ≤ 16 → n < base ^ 64 → digits_read base (digits base upper n) ≡ Some n
digits_read-digits base n upper low high small =
    let made = digits_is_IsNumeral base upper low high n small in
    digits_read-numeral base (digits base upper n) high made.0 ∙ ap Some made.1

pub is_decimal : (c : ℕ) → digit_value c < 10 → (48 ≤ c) × (c ≤ 57)
is_decimal c h = let r = digit_from_value c h in (omega (arith, r), omega (arith, r))
