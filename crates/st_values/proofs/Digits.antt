-- What passes the test of digits is digits with single `_` between them.
use Rattle.std.proofs.Common.{◌≡◌, ℕ, ◌≤◌, Bool, true, false, List, [], ◌∷◌, refl, sym, subst, arith, ◌==◌}
use Rattle.std.proofs.lemmas.Grind.{common_steps}
use Rattle.std.specs.Char.{digit_value, is_digit}
use Rattle.std.specs.Prelude.{◌↔◌, Option, Some, None, if◌then◌else◌}
use Rattle.std.specs.Str.Parse.{digits_value}
use Rattle.st_values.proofs.Cases.{below, both, differs}
use Rattle.st_values.proofs.NumberLemmas.{no_underscore}
use Rattle.st_values.specs.Numbers.{AreDigits, one, more, apart, are_digits, digits_read, without_underscores}

digit_other : (c base : ℕ) → base ≤ 16 → is_digit c base ≡ true → (c == 95) ≡ false
digit_other c base high h = differs c 95 (no_underscore c base (below (digit_value c) base h) high)

complete : (base : ℕ) (flag : Bool) (text : List ℕ) → base ≤ 16 → AreDigits base text → are_digits base flag text ≡ true
complete base flag [] high d = elim d [ ]
complete base flag (c ∷ []) high (one h) = rw (digit_other c base high h, h) refl
complete base flag (c ∷ text) high (more h d) = rw (digit_other c base high h, h) (complete base true text high d)
complete base flag (c ∷ u ∷ text) high (apart h d) = rw (digit_other c base high h, h) (complete base false text high d)

same : (a b : ℕ) → (a == b) ≡ true → a ≡ b
same a b h = grind (arith, common_steps)

-- the rest of digits: after a digit, and at the start
record Sound (base : ℕ) (text : List ℕ) : Type 0 where
  pub after : (c : ℕ) → is_digit c base ≡ true → are_digits base true text ≡ true → AreDigits base (c ∷ text)
  pub first : are_digits base false text ≡ true → AreDigits base text

next : (base b : ℕ) (text : List ℕ) (u : Bool) → (b == 95) ≡ u → Sound base text → Sound base (b ∷ text)
next base b text true e s = record {
  after = λ c d h. subst (λ (z : ℕ). AreDigits base (c ∷ z ∷ text)) (sym (same b 95 e)) (apart d (s.first (rw e at h)));
  first = λ h. let no : false ≡ true = rw e at h in absurd (cc);
}
next base b text false e s = record {
  after = λ c d h. let p = both (is_digit b base) (are_digits base true text) (rw e at h) in more d (s.after b p.0 p.1);
  first = λ h. let p = both (is_digit b base) (are_digits base true text) (rw e at h) in s.after b p.0 p.1;
}

sound : (base : ℕ) (text : List ℕ) → Sound base text
sound base [] = record { after = λ c d h. one d; first = λ h. cc }
sound base (b ∷ text) = next base b text (b == 95) refl (sound base text)

read_parts : (t : Bool) (m n : ℕ) → ◌≡◌ {A = Option ℕ} (if t then Some m else None) (Some n) → (t ≡ true) × (m ≡ n)
read_parts true m n h = (refl, cc)
read_parts false m n h = absurd (cc)

pub digits_are : (base : ℕ) (text : List ℕ) → base ≤ 16 → (n : ℕ) → (digits_read base text ≡ Some n) ↔ (AreDigits base text × (digits_value base (without_underscores text) ≡ n))
digits_are base text high n = (
  λ h. let p = read_parts (are_digits base false text) (digits_value base (without_underscores text)) n h in ((sound base text).first p.0, p.1),
  λ h. rw (complete base false text high h.0, h.1) refl,
)
