-- The texts of numbers tell which numbers they are.
use Rattle.std.proofs.Common.{◌≡◌, ℕ, suc, ◌<◌, ◌≤◌, ◌^◌, ℤ, pos, negsuc, nat_abs, Bool, true, false, ◌||◌, ◌==◌, List, [], ◌∷◌, decimal, refl, ap, sym, ◌∙◌, arith, subst, nat_lt}
use Rattle.std.specs.Char.{is_ascii_digit, to_ascii_uppercase}
use Rattle.std.specs.Fmt.{signed_decimal}
use Rattle.std.specs.List.{AllByRecursion as Each}
use Rattle.std.specs.Ordering.{int_eq}
use Rattle.std.specs.Str.Parse.{AllDigits, digits_value}
use Rattle.std.proofs.lemmas.Bool.{le-ltb}
use Rattle.std.proofs.lemmas.Bool.Decides.{nat_tests}
use Rattle.std.proofs.lemmas.Fmt.{decimal_is_IsNumeral_wide}
use Rattle.st_values.proofs.DigitTexts.{is_decimal}
use Rattle.st_values.specs.Words.{raised}
use Rattle.st_leaves.proofs.Cuts.{same_rest}

-- digits, and `-`
abbrev pub is_number_byte : ℕ → Bool
is_number_byte b = b == 45 || is_ascii_digit b

abbrev IsDigit : ℕ → Type 0
IsDigit b = (48 ≤ b) × (b ≤ 57)

digits_in : (ds : List ℕ) → AllDigits 10 ds → Each IsDigit ds
digits_in [] all = tt
digits_in (d ∷ ds) all = (is_decimal d all.0, digits_in ds all.1)

of_decimal : (n : ℕ) → n < 10 ^ 64 → Each IsDigit (decimal n)
of_decimal n short = digits_in (decimal n) (decimal_is_IsNumeral_wide n short).0.1

number_byte : (b : ℕ) → IsDigit b → is_number_byte b ≡ true
number_byte b (low, high) = grind (arith, nat_tests)

raised_digit : (b : ℕ) → IsDigit b → to_ascii_uppercase b ≡ b
raised_digit b (low, high) = grind (arith, nat_tests)

number_bytes : (ds : List ℕ) → Each IsDigit ds → Each (λ b. is_number_byte b ≡ true) ds
number_bytes [] are = tt
number_bytes (d ∷ ds) are = (number_byte d are.0, number_bytes ds are.1)

raised_digits : (ds : List ℕ) → Each IsDigit ds → raised ds ≡ ds
raised_digits [] are = refl
raised_digits (d ∷ ds) are = ap (λ c. c ∷ raised ds) (raised_digit d are.0) ∙ ap (λ cs. d ∷ cs) (raised_digits ds are.1)

pub of_number : (z : ℤ) → nat_abs z < 10 ^ 64 → Each (λ b. is_number_byte b ≡ true) (signed_decimal z)
of_number (pos n) short = number_bytes (decimal n) (of_decimal n short)
of_number (negsuc n) short = (refl, number_bytes (decimal (suc n)) (of_decimal (suc n) short))

pub raised_number : (z : ℤ) → nat_abs z < 10 ^ 64 → raised (signed_decimal z) ≡ signed_decimal z
raised_number (pos n) short = raised_digits (decimal n) (of_decimal n short)
raised_number (negsuc n) short = ap (λ ds. 45 ∷ ds) (raised_digits (decimal (suc n)) (of_decimal (suc n) short))

same_decimal : (m n : ℕ) → m < 10 ^ 64 → n < 10 ^ 64 → decimal m ≡ decimal n → m ≡ n
same_decimal m n short_m short_n e = sym (decimal_is_IsNumeral_wide m short_m).1 ∙ ap (digits_value 10) e ∙ (decimal_is_IsNumeral_wide n short_n).1

no_sign : (n : ℕ) (bs : List ℕ) → n < 10 ^ 64 → decimal n ≡ 45 ∷ bs → ⊥
no_sign n bs short e = let digits : Each IsDigit (45 ∷ bs) = subst (Each IsDigit) e (of_decimal n short) in let low = digits.0.0 in omega arith

equal : (y z : ℤ) → nat_abs y < 10 ^ 64 → nat_abs z < 10 ^ 64 → signed_decimal y ≡ signed_decimal z → y ≡ z
equal (pos m) (pos n) short_y short_z e = ap pos (same_decimal m n short_y short_z e)
equal (pos m) (negsuc n) short_y short_z e = absurd (no_sign m (decimal (suc n)) short_y e)
equal (negsuc m) (pos n) short_y short_z e = absurd (no_sign n (decimal (suc m)) short_z (sym e))
equal (negsuc m) (negsuc n) short_y short_z e =
    let same : suc m ≡ suc n = same_decimal (suc m) (suc n) short_y short_z (same_rest 45 45 (decimal (suc m)) (decimal (suc n)) e) in
    let inside : m ≡ n = omega (arith, same) in ap negsuc inside

itself : (z : ℤ) → int_eq z z ≡ true
itself (pos n) = let t : nat_lt n n ≡ false = le-ltb n n (omega arith) in rw t refl
itself (negsuc n) = let t : nat_lt n n ≡ false = le-ltb n n (omega arith) in rw t refl

pub same_number : (y z : ℤ) → nat_abs y < 10 ^ 64 → nat_abs z < 10 ^ 64 → signed_decimal y ≡ signed_decimal z → int_eq y z ≡ true
same_number y z short_y short_z e = subst (λ n. int_eq y n ≡ true) (equal y z short_y short_z e) (itself y)
