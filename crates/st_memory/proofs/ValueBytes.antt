-- What the bytes of a value read as.
use Rattle.std.proofs.Common.{◌/◌, get_or, subst, sym, ℕ, zero, suc, ℤ, pos, negsuc, ◌≡◌, ◌+◌, ◌-◌, ◌%◌, ◌^◌, ◌<◌, ◌≤◌, ◌-ℤ◌, Bool, true, false, List, ◌∷◌, ◌++◌, length, take, if◌then◌else◌, refl, ap, ◌∙◌, arith}
use Rattle.std.specs.Int.{byte_at, bytes_low_first, cast_unsigned, w64}
use Rattle.std.specs.Ordering.{int_eq}
use Rattle.std.proofs.Math.Nat.{div-one, mod-eq_of_lt}
use Rattle.std.proofs.lemmas.Int.{ints}
use Rattle.byteorder.specs.Endian.{little_bytes, little_number}
use Rattle.byteorder.specs.Numbers.{length-bytes_low_first, little_from-bytes}
use Rattle.st_values.specs.Types.{bits_of, width_of}
use Rattle.st_values.specs.Values.{IsValue, in_range, residue, wrapped, wrapped_number}
use Rattle.st_values.proofs.Cases.{below, is_not_below}
use Rattle.st_values.specs.declared.elem.Elem.{Elem}
use Rattle.st_values.specs.declared.elem.Elem.TheVariants as elems
use Rattle.st_values.specs.declared.value.Value.{Value}
use Rattle.st_memory.specs.Bytes.{BeginAsTruth, read_bytes, value_bytes}

pub length-value_bytes : (value : Value) → length (value_bytes value) ≡ width_of value.elem
unfolding value_bytes
length-value_bytes value = length-bytes_low_first 0 (width_of value.elem) (cast_unsigned w64 value.bits)

-- the lowest bytes of a number's bytes
pub take-bytes_low_first : (n m i x : ℕ) → n ≤ m → take n (bytes_low_first i m x) ≡ bytes_low_first i n x
take-bytes_low_first zero m i x within = refl
take-bytes_low_first (suc n) zero i x within = absurd (omega (arith, within))
take-bytes_low_first (suc n) (suc m) i x within =
    ap (λ (bytes : List ℕ). byte_at i x ∷ bytes) (take-bytes_low_first n m (suc i) x (omega (arith, within)))

-- the lowest bytes of a number read as what is left of it
lowest : (n x : ℕ) (rest : List ℕ) → little_number n (little_bytes n x ++ rest) ≡ x % 256 ^ n
lowest n x rest = little_from-bytes n 0 x rest ∙ ap (λ (y : ℕ). y % 256 ^ n) (div-one x)

-- a number from 0 to 2 to the width, or the one that differs from it by as much
abbrev chosen : Elem → ℤ → ℤ
chosen elem z = if in_range elem z then z else (z -ℤ pos (2 ^ bits_of elem))

abbrev either : Elem → ℤ → Bool → ℤ
either elem z inside = if inside then z else (z -ℤ pos (2 ^ bits_of elem))

-- a number in the range stays
kept : (elem : Elem) (n m : ℕ) → m ≡ n → n < 2 ^ bits_of elem → in_range elem (pos n) ≡ true → wrapped_number elem (pos m) ≡ pos n
kept elem n m same small inside =
    let left : residue elem (pos m) ≡ pos n = ap (λ (k : ℕ). pos k) (ap (λ (k : ℕ). k % 2 ^ bits_of elem) same ∙ mod-eq_of_lt small) in
    ap (chosen elem) left ∙ ap (either elem (pos n)) inside

-- one above the range stands for a number below zero
lowered : (elem : Elem) (n m : ℕ) → m + suc n ≡ 2 ^ bits_of elem → in_range elem (pos m) ≡ false → wrapped_number elem (pos m) ≡ negsuc n
lowered elem n m whole outside =
    let small : m < 2 ^ bits_of elem = omega (arith, whole) in
    let left : residue elem (pos m) ≡ pos m = ap (λ (k : ℕ). pos k) (mod-eq_of_lt small) in
    let below : pos m -ℤ pos (2 ^ bits_of elem) ≡ negsuc n = omega (arith, ints, whole) in
    ap (chosen elem) left ∙ ap (either elem (pos m)) outside ∙ below

pub truth : (n m : ℕ) → m ≡ n → n < 2 → (if int_eq (pos m) (pos 0) then pos 0 else pos 1) ≡ pos n
truth zero m same small = rw same refl
truth (suc zero) m same small = rw same refl
truth (suc (suc n)) m same small = absurd (omega (arith, small))

abbrev made : Elem → ℤ → Value
made elem bits = record { elem = elem; bits = bits }

-- what a type makes of the lowest bytes of a number in its range is the number
wrapped_back : (elem : Elem) (bits : ℤ) → in_range elem bits ≡ true → wrapped elem (pos (cast_unsigned w64 bits % 256 ^ width_of elem)) ≡ made elem bits
wrapped_back elems.Bool (pos n) inside =
    let small : n < 2 = below n 2 inside in
    ap (made elems.Bool) (truth n (n % 256) (mod-eq_of_lt (omega arith)) small)
wrapped_back elems.Bool (negsuc n) inside = cc
wrapped_back elems.Sint (pos n) inside =
    let small : n < 2 ^ 7 = below n (2 ^ 7) inside in
    ap (made elems.Sint) (kept elems.Sint n (n % 256) (mod-eq_of_lt (omega arith)) (omega arith) inside)
wrapped_back elems.Sint (negsuc n) inside =
    let small : n < 2 ^ 7 = below n (2 ^ 7) inside in
    let whole : (2 ^ 64 - suc n) % 256 + suc n ≡ 2 ^ 8 = omega arith in
    ap (made elems.Sint) (lowered elems.Sint n ((2 ^ 64 - suc n) % 256) whole (is_not_below ((2 ^ 64 - suc n) % 256) (2 ^ 7) (omega arith)))
wrapped_back elems.Int (pos n) inside =
    let small : n < 2 ^ 15 = below n (2 ^ 15) inside in
    ap (made elems.Int) (kept elems.Int n (n % 65536) (mod-eq_of_lt (omega arith)) (omega arith) inside)
wrapped_back elems.Int (negsuc n) inside =
    let small : n < 2 ^ 15 = below n (2 ^ 15) inside in
    let whole : (2 ^ 64 - suc n) % 65536 + suc n ≡ 2 ^ 16 = omega arith in
    ap (made elems.Int) (lowered elems.Int n ((2 ^ 64 - suc n) % 65536) whole (is_not_below ((2 ^ 64 - suc n) % 65536) (2 ^ 15) (omega arith)))
wrapped_back elems.Dint (pos n) inside =
    let small : n < 2 ^ 31 = below n (2 ^ 31) inside in
    ap (made elems.Dint) (kept elems.Dint n (n % 4294967296) (mod-eq_of_lt (omega arith)) (omega arith) inside)
wrapped_back elems.Dint (negsuc n) inside =
    let small : n < 2 ^ 31 = below n (2 ^ 31) inside in
    let whole : (2 ^ 64 - suc n) % 4294967296 + suc n ≡ 2 ^ 32 = omega arith in
    ap (made elems.Dint) (lowered elems.Dint n ((2 ^ 64 - suc n) % 4294967296) whole (is_not_below ((2 ^ 64 - suc n) % 4294967296) (2 ^ 31) (omega arith)))
wrapped_back elems.Lint (pos n) inside =
    let small : n < 2 ^ 63 = below n (2 ^ 63) inside in
    ap (made elems.Lint) (kept elems.Lint n (n % 18446744073709551616) (mod-eq_of_lt (omega arith)) (omega arith) inside)
wrapped_back elems.Lint (negsuc n) inside =
    let small : n < 2 ^ 63 = below n (2 ^ 63) inside in
    let whole : (2 ^ 64 - suc n) % 18446744073709551616 + suc n ≡ 2 ^ 64 = omega arith in
    ap (made elems.Lint) (lowered elems.Lint n ((2 ^ 64 - suc n) % 18446744073709551616) whole (is_not_below ((2 ^ 64 - suc n) % 18446744073709551616) (2 ^ 63) (omega arith)))
wrapped_back elems.Time (pos n) inside =
    let small : n < 2 ^ 63 = below n (2 ^ 63) inside in
    ap (made elems.Time) (kept elems.Time n (n % 18446744073709551616) (mod-eq_of_lt (omega arith)) (omega arith) inside)
wrapped_back elems.Time (negsuc n) inside =
    let small : n < 2 ^ 63 = below n (2 ^ 63) inside in
    let whole : (2 ^ 64 - suc n) % 18446744073709551616 + suc n ≡ 2 ^ 64 = omega arith in
    ap (made elems.Time) (lowered elems.Time n ((2 ^ 64 - suc n) % 18446744073709551616) whole (is_not_below ((2 ^ 64 - suc n) % 18446744073709551616) (2 ^ 63) (omega arith)))
wrapped_back elems.Usint (pos n) inside =
    let small : n < 2 ^ 8 = below n (2 ^ 8) inside in
    ap (made elems.Usint) (kept elems.Usint n (n % 256) (mod-eq_of_lt (omega arith)) (omega arith) inside)
wrapped_back elems.Usint (negsuc n) inside = cc
wrapped_back elems.Uint (pos n) inside =
    let small : n < 2 ^ 16 = below n (2 ^ 16) inside in
    ap (made elems.Uint) (kept elems.Uint n (n % 65536) (mod-eq_of_lt (omega arith)) (omega arith) inside)
wrapped_back elems.Uint (negsuc n) inside = cc
wrapped_back elems.Udint (pos n) inside =
    let small : n < 2 ^ 32 = below n (2 ^ 32) inside in
    ap (made elems.Udint) (kept elems.Udint n (n % 4294967296) (mod-eq_of_lt (omega arith)) (omega arith) inside)
wrapped_back elems.Udint (negsuc n) inside = cc
wrapped_back elems.Ulint (pos n) inside =
    let small : n < 2 ^ 64 = below n (2 ^ 64) inside in
    ap (made elems.Ulint) (kept elems.Ulint n (n % 18446744073709551616) (mod-eq_of_lt (omega arith)) (omega arith) inside)
wrapped_back elems.Ulint (negsuc n) inside = cc
wrapped_back elems.Byte (pos n) inside =
    let small : n < 2 ^ 8 = below n (2 ^ 8) inside in
    ap (made elems.Byte) (kept elems.Byte n (n % 256) (mod-eq_of_lt (omega arith)) (omega arith) inside)
wrapped_back elems.Byte (negsuc n) inside = cc
wrapped_back elems.Word (pos n) inside =
    let small : n < 2 ^ 16 = below n (2 ^ 16) inside in
    ap (made elems.Word) (kept elems.Word n (n % 65536) (mod-eq_of_lt (omega arith)) (omega arith) inside)
wrapped_back elems.Word (negsuc n) inside = cc
wrapped_back elems.Dword (pos n) inside =
    let small : n < 2 ^ 32 = below n (2 ^ 32) inside in
    ap (made elems.Dword) (kept elems.Dword n (n % 4294967296) (mod-eq_of_lt (omega arith)) (omega arith) inside)
wrapped_back elems.Dword (negsuc n) inside = cc
wrapped_back elems.Lword (pos n) inside =
    let small : n < 2 ^ 64 = below n (2 ^ 64) inside in
    ap (made elems.Lword) (kept elems.Lword n (n % 18446744073709551616) (mod-eq_of_lt (omega arith)) (omega arith) inside)
wrapped_back elems.Lword (negsuc n) inside = cc

-- The bytes of a value, whatever follows them, read as the value.
pub read_bytes-value_bytes : (value : Value) (rest : List ℕ) → IsValue value → read_bytes value.elem (value_bytes value ++ rest) ≡ value
unfolding value_bytes read_bytes
read_bytes-value_bytes value rest inside =
    ap (λ (n : ℕ). wrapped value.elem (pos n)) (lowest (width_of value.elem) (cast_unsigned w64 value.bits) rest)
    ∙ wrapped_back value.elem value.bits inside

-- ---- the byte of a BOOL

truth_first : (bits : ℤ) (rest : List ℕ) → in_range elems.Bool bits ≡ true → get_or (little_bytes 1 (cast_unsigned w64 bits) ++ rest) 0 0 < 2
truth_first (pos n) rest inside =
    let same : n / 1 % 256 ≡ n % 256 = ap (λ (y : ℕ). y % 256) (div-one n) in
    omega (arith, same, below n 2 inside)
truth_first (negsuc n) rest inside = cc

pub begin_as_truth : (value : Value) (rest : List ℕ) → IsValue value → BeginAsTruth value.elem (value_bytes value ++ rest)
unfolding value_bytes
begin_as_truth value rest inside is =
    let at : in_range elems.Bool value.bits ≡ true = ap (λ (e : Elem). in_range e value.bits) (sym is) ∙ inside in
    subst (λ (e : Elem). get_or (little_bytes (width_of e) (cast_unsigned w64 value.bits) ++ rest) 0 0 < 2) (sym is) (truth_first value.bits rest at)
