-- Reading digits: what is too much stays so, whatever follows.
use Rattle.std.proofs.Common.{◌≡◌, ◌≢◌, ℕ, suc, ◌+◌, ◌*◌, ◌<◌, ◌≤◌, min, Bool, true, false, List, [], ◌∷◌, length, drop, get_or, refl, ap, sym, ◌∙◌, arith, add-one, nat_lt, ◌==◌}
use Rattle.std.proofs.Math.Nat.{mul-le-mul_left}
use Rattle.std.proofs.Math.Seq.{drop-cons}
use Rattle.std.specs.Char.{digit_value}
use Rattle.std.specs.Prelude.{Option, Some, None, if◌then◌else◌}
use Rattle.std.specs.Str.Parse.{digits_value_after}
use Rattle.st_values.proofs.Cases.{is_below, differs}
use Rattle.st_values.specs.Numbers.{are_digits, capped, too_much, without_underscores}

-- what the rest of a text gives, after the digits of n
abbrev pub rest_read : ℕ → Bool → ℕ → List ℕ → Option ℕ
rest_read base after_digit n text =
    if are_digits base after_digit text then Some (capped (digits_value_after base n (without_underscores text))) else None

scaled : (base n d most : ℕ) → 1 ≤ base → min (min n most * base + d) most ≡ min (n * base + d) most
scaled base n d most low =
    let one : min n most * 1 ≤ min n most * base = mul-le-mul_left (min n most) low in
    let all : n * 1 ≤ n * base = mul-le-mul_left n low in
    grind arith

-- the digits before may be held down to what is too much
capped-after : (base n : ℕ) (digits : List ℕ) → 1 ≤ base → capped (digits_value_after base (capped n) digits) ≡ capped (digits_value_after base n digits)
capped-after base n [] low = let same : min (min n too_much) too_much ≡ min n too_much = omega arith in same
capped-after base n (d ∷ digits) low =
    sym (capped-after base (capped n * base + digit_value d) digits low)
    ∙ ap (λ m. capped (digits_value_after base m digits)) (scaled base n (digit_value d) too_much low)
    ∙ capped-after base (n * base + digit_value d) digits low

pub no_underscore : (c base : ℕ) → digit_value c < base → base ≤ 16 → c ≢ 95
no_underscore c base small high e = let big : digit_value c ≡ 36 = rw e refl in omega arith

rest_read-digit : (base : ℕ) (after_digit : Bool) (n c : ℕ) (text : List ℕ) → 1 ≤ base → base ≤ 16 → digit_value c < base
    → rest_read base true (capped (n * base + digit_value c)) text ≡ rest_read base after_digit n (c ∷ text)
rest_read-digit base after_digit n c text low high small =
    let other : (c == 95) ≡ false = differs c 95 (no_underscore c base small high) in
    let is : nat_lt (digit_value c) base ≡ true = is_below (digit_value c) base small in
    rw (other, is) (ap (λ m. if are_digits base true text then Some m else None) (capped-after base (n * base + digit_value c) (without_underscores text) low))

-- one more byte is a digit
pub after_a_digit : (base : ℕ) (after_digit now : Bool) (n next digit i : ℕ) (text : List ℕ) → 1 ≤ base → base ≤ 16 → i < length text
    → digit ≡ digit_value (get_or text i 0) → digit < base → next ≡ capped (n * base + digit) → now ≡ true
    → rest_read base now next (drop (i + 1) text) ≡ rest_read base after_digit n (drop i text)
after_a_digit base after_digit now n next digit i text low high within is small e f =
    rw (e, f, is, drop-cons text i 0, add-one) (rest_read-digit base after_digit n (get_or text i 0) (drop (suc i) text) low high (rw is at small))

-- one more byte is a `_`
pub after_underscore : (base : ℕ) (after_digit now : Bool) (n next i : ℕ) (text : List ℕ) → i < length text → get_or text i 0 ≡ 95
    → next ≡ n → now ≡ false → after_digit ≡ true
    → rest_read base now next (drop (i + 1) text) ≡ rest_read base after_digit n (drop i text)
after_underscore base after_digit now n next i text within line e f g =
    rw (e, f, g, drop-cons text i 0, line, add-one) refl
