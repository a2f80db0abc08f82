-- Shifts and rotations of bits, and NOT.
use Rattle.std.proofs.Common.{◌≡◌, ◌∙◌, ℕ, zero, suc, ◌+◌, ◌-◌, ◌*◌, ◌/◌, ◌%◌, ◌^◌, ◌<◌, ◌≤◌, ℤ, pos, negsuc, unsigned_abs, IsTrue, refl, sym, ap, ap₂, subst, arith, lit<, mod-lt, div-add-mod', mul_assoc, mul-le-mul_right, one-mul, pow_pos, pow_mono, pow-add, shl_exact, shr_lt, lt_of_lt_of_le}
use Rattle.std.proofs.Math.Nat.{mul-mod_left}
use Rattle.std.proofs.lemmas.Grind.{common_steps}
use Rattle.std.proofs.lemmas.Nat.{div_below, mod_low, shr_high}
use Rattle.std.proofs.lemmas.Nat.Bits.{bit_at_not}
use Rattle.std.specs.Int.{bit_at, w8, w16, w32, w64}
use Rattle.st_values.specs.Types.{bits_of}
use Rattle.st_values.specs.Values.{in_range, IsValue}
use Rattle.st_values.specs.declared.elem.Elem.{Elem}
use Rattle.st_values.specs.declared.elem.Elem.TheVariants as elems
use Rattle.st_values.specs.declared.value.Value.{Value}
use Rattle.st_operators.specs.Functions.{shifted_left_by, shifted_right_by, rotated_left_by, rotated_right_by, turned}
use Rattle.st_operators.specs.Operators.{bits_in, complemented, complements, is_bits, of_bits}
use Rattle.st_operators.proofs.Wrapping.{few_bits}

-- 2 to the width, in two parts
parted : (w k : ℕ) → k ≤ w → 2 ^ w ≡ 2 ^ k * 2 ^ (w - k)
parted w k h = let sum : w ≡ k + (w - k) = omega arith in ap (λ x. 2 ^ x) sum ∙ pow-add 2 k (w - k)

-- ---- rotations

high_few : (w k x : ℕ) → k ≤ w → x < 2 ^ w → x / 2 ^ (w - k) < 2 ^ k
high_few w k x h few = let sum : w ≡ k + (w - k) = omega arith in shr_lt k (w - k) (subst (λ y. x < 2 ^ y) sum few)

pub turned_few : (w low x : ℕ) → low ≤ w → x < 2 ^ w → turned w low x < 2 ^ w
turned_few w low x h few =
    let m = 2 ^ (w - low) in
    let sum : w ≡ w - low + low = omega arith in
    let high : x / 2 ^ low < m = shr_lt (w - low) low (subst (λ y. x < 2 ^ y) sum few) in
    let small = mod-lt x (pow_pos low) in
    let below : (x % 2 ^ low + 1) * m ≤ 2 ^ low * m = mul-le-mul_right m (omega arith) in
    omega (arith, parted w low h)

-- what the code of 128 bits makes of them
pub turned_in_code : (w b low x : ℕ) → b ≡ w → low ≤ w → w ≤ 64 → x % (1 * 2 ^ low % 2 ^ 128) * 2 ^ (b - low) % 2 ^ 128 + x / 2 ^ low ≡ turned w low x
turned_in_code w b low x e h small =
    let modulus : 1 * 2 ^ low % 2 ^ 128 ≡ 2 ^ low = shl_exact 1 low 128 (lit< tt) (omega arith) ∙ one-mul (2 ^ low) in
    let moved : x % 2 ^ low * 2 ^ (w - low) % 2 ^ 128 ≡ x % 2 ^ low * 2 ^ (w - low) = shl_exact low (w - low) 128 (mod-lt x (pow_pos low)) (omega arith) in
    ap₂ (λ m k. x % m * 2 ^ (k - low) % 2 ^ 128 + x / 2 ^ low) modulus e ∙ ap (λ y. y + x / 2 ^ low) moved

turned_back : (w k x : ℕ) → k ≤ w → x < 2 ^ w → turned w k (turned w (w - k) x) ≡ x
turned_back w k x h few =
    let low = x % 2 ^ (w - k) in
    let high = x / 2 ^ (w - k) in
    let back : w - (w - k) ≡ k = omega arith in
    let small = high_few w k x h few in
    ap (λ j. turned w k (low * 2 ^ j + high)) back
    ∙ ap₂ (λ r d. r * 2 ^ (w - k) + d) (mod_low low k high small) (shr_high low k high small)
    ∙ div-add-mod' x (2 ^ (w - k))

-- the number of a BOOL or a bit string isn't below 0, and has no more bits than its type
pub natural_of : (e : Elem) (z : ℤ) → IsTrue (complements e) → IsTrue (in_range e z) → (pos (unsigned_abs z) ≡ z) × (unsigned_abs z < 2 ^ bits_of e)
natural_of elems.Bool (pos n) bits value = (refl, grind (arith, common_steps))
natural_of elems.Byte (pos n) bits value = (refl, grind (arith, common_steps))
natural_of elems.Word (pos n) bits value = (refl, grind (arith, common_steps))
natural_of elems.Dword (pos n) bits value = (refl, grind (arith, common_steps))
natural_of elems.Lword (pos n) bits value = (refl, grind (arith, common_steps))
natural_of elems.Bool (negsuc n) bits value = cc
natural_of elems.Byte (negsuc n) bits value = cc
natural_of elems.Word (negsuc n) bits value = cc
natural_of elems.Dword (negsuc n) bits value = cc
natural_of elems.Lword (negsuc n) bits value = cc
natural_of e z bits value = cc

-- NOT takes what is shifted
pub bits_complement : (e : Elem) → IsTrue (is_bits e) → IsTrue (complements e)
bits_complement e h = grind (arith, common_steps)

pub rotated_back : (a : Value) (places : ℕ) → IsTrue (is_bits a.elem) → IsValue a → rotated_right_by (rotated_left_by a places) places ≡ a
rotated_back a places bits value =
    let w = bits_of a.elem in
    let k = places % w in
    let some = few_bits a.elem in
    let natural = natural_of a.elem a.bits (bits_complement a.elem bits) value in
    let below : k < w = mod-lt places (omega arith) in
    ap (λ n. of_bits a.elem n) (turned_back w k (bits_in a) (omega arith) natural.1) ∙ ap (λ z. record { elem = a.elem; bits = z }) natural.0

-- ---- shifts by the width or more

shl_far : (w places x : ℕ) → w ≤ places → x * 2 ^ places % 2 ^ w ≡ 0
shl_far w places x h =
    let sum : places ≡ places - w + w = omega arith in
    let product : x * 2 ^ places ≡ x * 2 ^ (places - w) * 2 ^ w = ap (λ y. x * 2 ^ y) sum ∙ ap (λ y. x * y) (pow-add 2 (places - w) w) ∙ sym (mul_assoc x (2 ^ (places - w)) (2 ^ w)) in
    ap (λ y. y % 2 ^ w) product ∙ mul-mod_left (x * 2 ^ (places - w)) (2 ^ w)

shr_far : (w places x : ℕ) → w ≤ places → x < 2 ^ w → x / 2 ^ places ≡ 0
shr_far w places x h few =
    let below : x < 1 * 2 ^ places = subst (λ y. x < y) (sym (one-mul (2 ^ places))) (lt_of_lt_of_le few (pow_mono h)) in
    let none = div_below x (2 ^ places) 1 (pow_pos places) below in
    omega arith

pub shifted_left_far : (a : Value) (places : ℕ) → bits_of a.elem ≤ places → shifted_left_by a places ≡ of_bits a.elem 0
shifted_left_far a places h = ap (λ n. of_bits a.elem n) (shl_far (bits_of a.elem) places (bits_in a) h)

pub shifted_right_far : (a : Value) (places : ℕ) → IsTrue (is_bits a.elem) → IsValue a → bits_of a.elem ≤ places → shifted_right_by a places ≡ of_bits a.elem 0
shifted_right_far a places bits value h = ap (λ n. of_bits a.elem n) (shr_far (bits_of a.elem) places (bits_in a) h (natural_of a.elem a.bits (bits_complement a.elem bits) value).1)

-- ---- NOT, bit by bit

complement_of_bit : (n i : ℕ) → n < 2 → i < 1 → bit_at (2 ^ 1 - 1 - n) i ≡ 1 - bit_at n i
complement_of_bit zero zero few only = refl
complement_of_bit (suc zero) zero few only = refl
complement_of_bit (suc (suc n)) i few only = absurd (omega arith)
complement_of_bit n (suc i) few only = absurd (omega arith)

complement_of_bits : (e : Elem) (n i : ℕ) → IsTrue (complements e) → n < 2 ^ bits_of e → i < bits_of e → bit_at (2 ^ bits_of e - 1 - n) i ≡ 1 - bit_at n i
complement_of_bits elems.Bool n i bits few within = complement_of_bit n i few within
complement_of_bits elems.Byte n i bits few within = bit_at_not w8 n i few within
complement_of_bits elems.Word n i bits few within = bit_at_not w16 n i few within
complement_of_bits elems.Dword n i bits few within = bit_at_not w32 n i few within
complement_of_bits elems.Lword n i bits few within = bit_at_not w64 n i few within
complement_of_bits e n i bits few within = cc

pub complemented_bit : (a : Value) (i : ℕ) → IsTrue (complements a.elem) → IsValue a → i < bits_of a.elem → bit_at (bits_in (complemented a)) i ≡ 1 - bit_at (bits_in a) i
complemented_bit a i bits value within = complement_of_bits a.elem (bits_in a) i bits (natural_of a.elem a.bits bits value).1 within
