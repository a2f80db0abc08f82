-- What is left at a type's width is the same where a number was wrapped at 2 to the 128 before.
use Rattle.std.proofs.Common.{◌≡◌, ◌∙◌, ℕ, suc, ◌+◌, ◌-◌, ◌*◌, ◌/◌, ◌%◌, ◌^◌, ◌<◌, ◌≤◌, ℤ, pos, negsuc, ◌+ℤ◌, ◌-ℤ◌, IsTrue, if◌then◌else◌, refl, sym, ap, arith, lit≤, mod-lt, div-add-mod', mul_assoc, pow_pos, pow-add}
use Rattle.std.proofs.lemmas.Int.{ints, by_lt_z, int_rem_euclid_is}
use Rattle.std.specs.Int.{Width, w128, cast_signed, int_wrap}
use mir.Val.{bits, hbits}
use mir.Facts.{to_z_pos, to_z-neg}
use mir.ValLaws.{pow-bits}
use Rattle.st_values.specs.Types.{bits_of}
use Rattle.st_values.specs.Values.{in_range, residue, wrapped}
use Rattle.st_values.specs.declared.elem.Elem.{Elem}
use Rattle.st_values.specs.declared.elem.Elem.TheVariants as elems
use Rattle.st_operators.specs.Operators.{is_integer, negates}

-- a type has from 1 to 64 bits
pub few_bits : (e : Elem) → (1 ≤ bits_of e) × (bits_of e ≤ 64)
few_bits elems.Bool = (lit≤ tt, lit≤ tt)
few_bits elems.Sint = (lit≤ tt, lit≤ tt)
few_bits elems.Int = (lit≤ tt, lit≤ tt)
few_bits elems.Dint = (lit≤ tt, lit≤ tt)
few_bits elems.Lint = (lit≤ tt, lit≤ tt)
few_bits elems.Usint = (lit≤ tt, lit≤ tt)
few_bits elems.Uint = (lit≤ tt, lit≤ tt)
few_bits elems.Udint = (lit≤ tt, lit≤ tt)
few_bits elems.Ulint = (lit≤ tt, lit≤ tt)
few_bits elems.Byte = (lit≤ tt, lit≤ tt)
few_bits elems.Word = (lit≤ tt, lit≤ tt)
few_bits elems.Dword = (lit≤ tt, lit≤ tt)
few_bits elems.Lword = (lit≤ tt, lit≤ tt)
few_bits elems.Time = (lit≤ tt, lit≤ tt)

-- numbers that differ from the same one by multiples of 2 to the width leave the same
residue_same : (e : Elem) (x y : ℤ) (j k m : ℕ) → x +ℤ pos (j * 2 ^ bits_of e) ≡ pos m → y +ℤ pos (k * 2 ^ bits_of e) ≡ pos m → residue e x ≡ residue e y
residue_same e x y j k m p q =
    let n = 2 ^ bits_of e in
    int_rem_euclid_is x (pos n) n j m (pow_pos (bits_of e)) refl p ∙ sym (int_rem_euclid_is y (pos n) n k m (pow_pos (bits_of e)) refl q)

-- the number that some bits are, and how many times 2 to their count it lies below them
read : (w : Width) (n : ℕ) → n < 2 ^ bits w → (j : ℕ) × (cast_signed w n +ℤ pos (j * 2 ^ bits w) ≡ pos n)
read w n h =
    let doubled = pow-bits w in
    by_lt_z (pos n) (pos (2 ^ hbits w))
    (λ low. (0, let few : n < 2 ^ hbits w = omega (arith, ints) in let e = to_z_pos w few in omega (arith, ints)))
    (λ high.
    let k = 2 ^ bits w - 1 - n in
    let few : k < 2 ^ hbits w = omega (arith, ints) in
    let is : 2 ^ bits w - suc k ≡ n = omega arith in
    let e = ap (cast_signed w) (sym is) ∙ to_z-neg w k few in
    (1, omega (arith, ints)))

residue_wrapped : (w : Width) (e : Elem) (t : ℕ) → t * 2 ^ bits_of e ≡ 2 ^ bits w → (z : ℤ) → residue e (int_wrap w z) ≡ residue e z
unfolding int_wrap
residue_wrapped w e t h (pos a) =
    let m = 2 ^ bits w in
    let n = 2 ^ bits_of e in
    let r = read w (a % m) (mod-lt a (pow_pos (bits w))) in
    let j = r.0 + a / m in
    let whole : j * t * n ≡ j * m = mul_assoc j t n ∙ ap (λ x. j * x) h in
    let at : cast_signed w (a % m) +ℤ pos (j * m) ≡ pos a = omega (arith, ints, r.1, div-add-mod' a m) in
    residue_same e (cast_signed w (a % m)) (pos a) (j * t) 0 a (ap (λ x. cast_signed w (a % m) +ℤ pos x) whole ∙ at) (omega (arith, ints))
residue_wrapped w e t h (negsuc a) =
    let m = 2 ^ bits w in
    let n = 2 ^ bits_of e in
    let small = mod-lt a (pow_pos (bits w)) in
    let left = m - 1 - a % m in
    let r = read w left (omega arith) in
    let k = a / m + 1 in
    let whole_j : r.0 * t * n ≡ r.0 * m = mul_assoc r.0 t n ∙ ap (λ x. r.0 * x) h in
    let whole_k : k * t * n ≡ k * m = mul_assoc k t n ∙ ap (λ x. k * x) h in
    let at : negsuc a +ℤ pos (k * m) ≡ pos left = omega (arith, ints, div-add-mod' a m) in
    residue_same e (cast_signed w left) (negsuc a) (r.0 * t) (k * t) left (ap (λ x. cast_signed w left +ℤ pos x) whole_j ∙ r.1) (ap (λ x. negsuc a +ℤ pos x) whole_k ∙ at)

-- 2 to the 128 is a multiple of 2 to the width
widths_divide : (e : Elem) → 2 ^ (128 - bits_of e) * 2 ^ bits_of e ≡ 2 ^ 128
widths_divide e =
    let few = few_bits e in
    let sum : 128 - bits_of e + bits_of e ≡ 128 = omega arith in
    sym (pow-add 2 (128 - bits_of e) (bits_of e)) ∙ ap (λ x. 2 ^ x) sum

wrapped_same : (e : Elem) (x y : ℤ) → IsTrue (negates e) → residue e x ≡ residue e y → wrapped e x ≡ wrapped e y
wrapped_same elems.Bool x y h r = cc
wrapped_same e x y h r = ap (λ left. record { elem = e; bits = if in_range e left then left else (left -ℤ pos (2 ^ bits_of e)) }) r

pub wrapped_through : (e : Elem) (z : ℤ) → IsTrue (negates e) → wrapped e (int_wrap w128 z) ≡ wrapped e z
wrapped_through e z h = wrapped_same e (int_wrap w128 z) z h (residue_wrapped w128 e (2 ^ (128 - bits_of e)) (widths_divide e) z)

-- `-` takes what `*` takes
pub integers_negate : (e : Elem) → IsTrue (is_integer e) → IsTrue (negates e)
integers_negate e h = rw h refl
