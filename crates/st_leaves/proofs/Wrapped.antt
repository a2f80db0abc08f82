-- What a number is as a value of a type lies in the range of the type.
use Rattle.std.proofs.Common.{◌≡◌, ℕ, ◌+◌, ◌-◌, ◌^◌, ◌<◌, ◌≤◌, ℤ, pos, negsuc, ◌-ℤ◌, Bool, true, false, ◌&&◌, nat_lt, if◌then◌else◌, refl, ap, ◌∙◌, arith}
use Rattle.std.specs.Int.{int_rem_euclid}
use Rattle.std.specs.Ordering.{int_eq}
use Rattle.std.proofs.lemmas.Grind.{common_steps}
use Rattle.std.proofs.lemmas.Int.{ints}
use Rattle.std.proofs.lemmas.Nat.{pow_pos}
use Rattle.st_values.specs.Types.{bits_of, is_signed, limit_of}
use Rattle.st_values.specs.Values.{in_range, IsValue, residue, wrapped, wrapped_number}
use Rattle.st_values.specs.declared.elem.Elem.{Elem}
use Rattle.st_values.specs.declared.elem.Elem.TheVariants as elems
use Rattle.st_values.proofs.Cases.{is_below}

-- a number from 0 to n
data IsBelow (n : ℕ) : ℤ → Type 0 where
  number : {m : ℕ} → m < n → IsBelow n (pos m)

remainder : (n : ℕ) (z : ℤ) → 0 < n → IsBelow n (int_rem_euclid z (pos n))
remainder n (pos a) some = number (omega arith)
remainder n (negsuc a) some = number (omega arith)

less : (m n : ℕ) → m < n → pos m -ℤ pos n ≡ negsuc (n - m - 1)
less m n h = omega (arith, ints)

not_below : (m n : ℕ) → nat_lt m n ≡ false → n ≤ m
not_below m n e = grind (arith, common_steps)

-- the number itself, or the one that is less by n
abbrev moved : Elem → ℕ → ℤ → ℤ
moved e n z = if in_range e z then z else (z -ℤ pos n)

chosen : (e : Elem) (n : ℕ) (z : ℤ) (b : Bool) → in_range e z ≡ b → (b ≡ false → in_range e (z -ℤ pos n) ≡ true) → in_range e (if b then z else (z -ℤ pos n)) ≡ true
chosen e n z true is other = is
chosen e n z false is other = other refl

-- of a type with as many numbers below zero as above
signed : (e : Elem) (n : ℕ) (z : ℤ) → is_signed e ≡ true → limit_of e + limit_of e ≡ n → IsBelow n z → in_range e (moved e n z) ≡ true
signed e n z with_sign half (number {m} h) = chosen e n (pos m) (in_range e (pos m)) refl (λ out. ap (in_range e) (less m n h) ∙ ap (λ s. s && nat_lt (n - m - 1) (limit_of e)) with_sign ∙ (is_below (n - m - 1) (limit_of e) (omega (arith, not_below m (limit_of e) out, half, h))))

unsigned : (e : Elem) (n : ℕ) (z : ℤ) → limit_of e ≡ n → IsBelow n z → in_range e (moved e n z) ≡ true
unsigned e n z all (number {m} h) = chosen e n (pos m) (in_range e (pos m)) refl (λ out. absurd (omega (arith, not_below m (limit_of e) out, all, h)))

numbers_in_range : (e : Elem) (z : ℤ) → IsBelow (2 ^ bits_of e) z → in_range e (moved e (2 ^ bits_of e) z) ≡ true
numbers_in_range elems.Bool z h = unsigned elems.Bool 2 z refl h
numbers_in_range elems.Sint z h = signed elems.Sint (2 ^ 8) z refl refl h
numbers_in_range elems.Int z h = signed elems.Int (2 ^ 16) z refl refl h
numbers_in_range elems.Dint z h = signed elems.Dint (2 ^ 32) z refl refl h
numbers_in_range elems.Lint z h = signed elems.Lint (2 ^ 64) z refl refl h
numbers_in_range elems.Usint z h = unsigned elems.Usint (2 ^ 8) z refl h
numbers_in_range elems.Uint z h = unsigned elems.Uint (2 ^ 16) z refl h
numbers_in_range elems.Udint z h = unsigned elems.Udint (2 ^ 32) z refl h
numbers_in_range elems.Ulint z h = unsigned elems.Ulint (2 ^ 64) z refl h
numbers_in_range elems.Byte z h = unsigned elems.Byte (2 ^ 8) z refl h
numbers_in_range elems.Word z h = unsigned elems.Word (2 ^ 16) z refl h
numbers_in_range elems.Dword z h = unsigned elems.Dword (2 ^ 32) z refl h
numbers_in_range elems.Lword z h = unsigned elems.Lword (2 ^ 64) z refl h
numbers_in_range elems.Time z h = signed elems.Time (2 ^ 64) z refl refl h

some_numbers : (e : Elem) → 0 < 2 ^ bits_of e
some_numbers e = pow_pos (bits_of e)

truth_in_range : (b : Bool) → in_range elems.Bool (if b then pos 0 else pos 1) ≡ true
truth_in_range true = refl
truth_in_range false = refl

wrapped_in_range : (e : Elem) (z : ℤ) → in_range e (wrapped_number e z) ≡ true
wrapped_in_range e z = numbers_in_range e (residue e z) (remainder (2 ^ bits_of e) z (some_numbers e))

pub wrapped_is_value : (e : Elem) (z : ℤ) → IsValue (wrapped e z)
wrapped_is_value elems.Bool z = truth_in_range (int_eq z (pos 0))
wrapped_is_value elems.Sint z = wrapped_in_range elems.Sint z
wrapped_is_value elems.Int z = wrapped_in_range elems.Int z
wrapped_is_value elems.Dint z = wrapped_in_range elems.Dint z
wrapped_is_value elems.Lint z = wrapped_in_range elems.Lint z
wrapped_is_value elems.Usint z = wrapped_in_range elems.Usint z
wrapped_is_value elems.Uint z = wrapped_in_range elems.Uint z
wrapped_is_value elems.Udint z = wrapped_in_range elems.Udint z
wrapped_is_value elems.Ulint z = wrapped_in_range elems.Ulint z
wrapped_is_value elems.Byte z = wrapped_in_range elems.Byte z
wrapped_is_value elems.Word z = wrapped_in_range elems.Word z
wrapped_is_value elems.Dword z = wrapped_in_range elems.Dword z
wrapped_is_value elems.Lword z = wrapped_in_range elems.Lword z
wrapped_is_value elems.Time z = wrapped_in_range elems.Time z
