-- Tests as `Bool`s, and parts of pairs in an `Option`.
use Rattle.std.proofs.Common.{◌≡◌, ℕ, Bool, true, false, refl, ap, arith, nat_lt, ◌<◌, ◌≤◌}
use Rattle.std.specs.Prelude.{Option, Some, ◌==◌, ◌&&◌}
use Rattle.std.proofs.lemmas.Grind.{common_steps}

-- by a test, with how it went
pub by_test : {P : Type 0} (b : Bool) → (b ≡ true → P) → (b ≡ false → P) → P
by_test true f g = f refl
by_test false f g = g refl

-- a test of equality that passed
pub is_equal : (a b : ℕ) → (a == b) ≡ true → a ≡ b
is_equal a b h = grind (arith, common_steps)

-- a test has one outcome
pub not_both : {P : Type 0} {b : Bool} → b ≡ true → b ≡ false → P
not_both h k = absurd (cc)

-- the parts of a test of both
pub both : (p q : Bool) → (p && q) ≡ true → (p ≡ true) × (q ≡ true)
both true q h = (refl, h)
both false q h = cc

-- the parts of a pair that was found
pub some_parts : {A B : Type 0} {a b : A} {x y : B} → ◌≡◌ {A = Option (A × B)} (Some (a, x)) (Some (b, y)) → (a ≡ b) × (x ≡ y)
some_parts {A} {B} {a} {b} {x} {y} h = let e : ◌≡◌ {A = A × B} (a, x) (b, y) = cc in (ap (λ z. z.0) e, ap (λ z. z.1) e)

-- both tests passed
pub both_true : {p q : Bool} → p ≡ true → q ≡ true → (p && q) ≡ true
both_true h k = rw (h, k) refl

-- the test `<` passed
pub below : (a b : ℕ) → nat_lt a b ≡ true → a < b
below a b h = grind (arith, common_steps)

-- it failed
pub not_below : (a b : ℕ) → nat_lt a b ≡ false → b ≤ a
not_below a b h = grind (arith, common_steps)

-- it fails
pub at_least : (a b : ℕ) → b ≤ a → nat_lt a b ≡ false
at_least a b h = grind (arith, common_steps)
