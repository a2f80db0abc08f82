-- Numbers with a sign: what is too much stays out of each type's range.
use Rattle.std.proofs.Common.{◌≡◌, ℕ, zero, suc, ◌+◌, ◌≤◌, ◌^◌, Bool, true, false, List, refl, ap, sym, ◌∙◌, arith, add-one, nat_lt, ℤ, pos, negsuc, ◌⊎◌, ⊎_elim, lit≤, ◌-◌}
use Rattle.std.proofs.lemmas.Grind.{common_steps}
use Rattle.std.specs.Prelude.{Option, Some, None, option_map, option_and_then, if◌then◌else◌}
use Rattle.std.specs.Str.{byte}
use Rattle.std.specs.Prelude.{slice_index, drop, ◌==◌}
use Rattle.st_values.specs.Numbers.{capped, capped_signed, negative, number_read, too_much}
use Rattle.st_values.specs.Readings.{after_sign, signed_read, value_of}
use Rattle.st_values.specs.Types.{is_signed, limit_of}
use Rattle.st_values.specs.Values.{in_range}
use Rattle.st_values.specs.declared.elem.Elem.{Elem}
use Rattle.st_values.specs.declared.elem.Elem.TheVariants as elems
use Rattle.st_values.proofs.Cases.{below, both, is_not_below, not_true}

capped_signed-negative : (n : ℕ) → capped_signed (negative n) ≡ negative (capped n)
capped_signed-negative zero = refl
capped_signed-negative (suc n) = rw add-one refl

pub map-negative : (magnitude : Option ℕ) → option_map capped_signed (option_map negative magnitude) ≡ option_map negative (option_map capped magnitude)
map-negative None = refl
map-negative (Some n) = ap Some (capped_signed-negative n)

pub map-pos : (magnitude : Option ℕ) → option_map capped_signed (option_map pos magnitude) ≡ option_map pos (option_map capped magnitude)
map-pos None = refl
map-pos (Some n) = refl

pub limit_of-most : (elem : Elem) → limit_of elem ≤ 2 ^ 64
limit_of-most elems.Bool = omega arith
limit_of-most elems.Sint = omega arith
limit_of-most elems.Int = omega arith
limit_of-most elems.Dint = omega arith
limit_of-most elems.Lint = omega arith
limit_of-most elems.Usint = omega arith
limit_of-most elems.Uint = omega arith
limit_of-most elems.Udint = omega arith
limit_of-most elems.Ulint = omega arith
limit_of-most elems.Byte = omega arith
limit_of-most elems.Word = omega arith
limit_of-most elems.Dword = omega arith
limit_of-most elems.Lword = omega arith
limit_of-most elems.Time = omega arith

pub limit_of-signed : (elem : Elem) → is_signed elem ≡ true → limit_of elem ≤ 2 ^ 63
limit_of-signed elems.Sint h = omega arith
limit_of-signed elems.Int h = omega arith
limit_of-signed elems.Dint h = omega arith
limit_of-signed elems.Lint h = omega arith
limit_of-signed elems.Time h = omega arith
limit_of-signed _ h = cc

-- a number that counts as itself, or one out of each range that counts as one out of each range
counts : (n : ℕ) → (capped n ≡ n) ⊎ ((capped n ≡ too_much) × (too_much ≤ n))
counts n = grind (arith, common_steps)

value_of-none : (elem : Elem) (number : ℤ) → in_range elem number ≡ false → value_of elem number ≡ None
value_of-none elem number h = rw h refl

not_in_range : (elem : Elem) (n : ℕ) → 2 ^ 63 ≤ n → in_range elem (negsuc n) ≡ false
not_in_range elem n big = not_true _ (λ within.
    let parts = both (is_signed elem) (nat_lt n (limit_of elem)) within in
    let small = below n (limit_of elem) parts.1 in
    let most = limit_of-signed elem parts.0 in
    absurd (omega arith))

pub value_of-capped : (elem : Elem) (number : ℤ) → value_of elem (capped_signed number) ≡ value_of elem number
value_of-capped elem (pos n) = ⊎_elim
    (λ same. ap (λ m. value_of elem (pos m)) same)
    (λ big. value_of-none elem (pos (capped n)) (is_not_below (capped n) (limit_of elem) (omega (arith, limit_of-most elem, big.0)))
    ∙ sym (value_of-none elem (pos n) (is_not_below n (limit_of elem) (omega (arith, limit_of-most elem, big.1)))))
    (counts n)
value_of-capped elem (negsuc n) = ⊎_elim
    (λ same. ap (λ m. value_of elem (negative m)) same ∙ rw add-one refl)
    (λ big. rw big.0 (value_of-none elem (negative too_much) (not_in_range elem (2 ^ 64 - 1) (lit≤ tt)))
    ∙ sym (value_of-none elem (negsuc n) (not_in_range elem n (omega (arith, big.1)))))
    (counts (n + 1))

pub read-capped : (elem : Elem) (number : Option ℤ) → option_and_then (value_of elem) (option_map capped_signed number) ≡ option_and_then (value_of elem) number
read-capped elem None = refl
read-capped elem (Some z) = value_of-capped elem z

if-capped : (p q : Bool) (below above plain : Option ℕ) →
    option_map capped_signed (if p then option_map negative below else if q then option_map pos above else option_map pos plain)
    ≡ (if p then option_map negative (option_map capped below) else if q then option_map pos (option_map capped above) else option_map pos (option_map capped plain))
if-capped true q below above plain = map-negative below
if-capped false true below above plain = map-pos above
if-capped false false below above plain = map-pos plain

-- a number with a sign counts as what its magnitude counts as, with the sign
pub signed_read-capped : (typed : Bool) (text : List ℕ) →
    option_map capped_signed (signed_read typed text)
    ≡ (if slice_index text 0 == byte "-" then option_map negative (option_map capped (after_sign typed (drop 1 text)))
    else if slice_index text 0 == byte "+" then option_map pos (option_map capped (after_sign typed (drop 1 text)))
    else option_map pos (option_map capped (number_read text)))
signed_read-capped typed text = if-capped (slice_index text 0 == byte "-") (slice_index text 0 == byte "+") (after_sign typed (drop 1 text)) (after_sign typed (drop 1 text)) (number_read text)

pub value_of-some : (elem : Elem) (number : ℤ) → in_range elem number ≡ true → value_of elem number ≡ Some (record { elem = elem; bits = number })
value_of-some elem number h = rw h refl
