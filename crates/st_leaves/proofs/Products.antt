-- A product of counts that stopped at a limit stops where the product does.
use Rattle.std.proofs.Common.{◌≡◌, ℕ, zero, suc, ◌*◌, ◌≤◌, ◌<◌, ap, sym, ◌∙◌, arith, ◌⊎◌, inl, inr}
use Rattle.std.specs.Prelude.{min}
use Rattle.std.proofs.Math.Nat.{le-mul_of_pos_right, mul_comm}

low : (n most : ℕ) → n ≤ most → min n most ≡ n
low n most h = omega (arith, h)

high : (n most : ℕ) → most ≤ n → min n most ≡ most
high n most h = omega (arith, h)

high_left : (most a b : ℕ) → 0 < most → most ≤ a → 0 < b → min (min a most * min b most) most ≡ min (a * b) most
high_left most a b pos h k =
    let some : 0 < min b most = omega (arith, pos, k) in
    let left : most ≤ most * min b most = le-mul_of_pos_right {m = min b most} most some in
    let right : most ≤ a * b = omega (arith, h, le-mul_of_pos_right {m = b} a k) in
    ap (λ x. min (x * min b most) most) (high a most h) ∙ high (most * min b most) most left ∙ sym (high (a * b) most right)

swapped : (most a b : ℕ) → min (min a most * min b most) most ≡ min (a * b) most → min (min b most * min a most) most ≡ min (b * a) most
swapped most a b e = ap (λ x. min x most) (mul_comm (min b most) (min a most)) ∙ e ∙ ap (λ x. min x most) (mul_comm a b)

both_low : (most a b : ℕ) → a ≤ most → b ≤ most → min (min a most * min b most) most ≡ min (a * b) most
both_low most a b h k = ap (λ x. min (x * min b most) most) (low a most h) ∙ ap (λ x. min (a * x) most) (low b most k)

zero_left : (most b : ℕ) → min (min 0 most * min b most) most ≡ min (0 * b) most
zero_left most b = ap (λ x. min (x * min b most) most) (low 0 most (omega arith)) ∙ omega (arith, mul_comm 0 (min b most), mul_comm 0 b)

by_order : (a b : ℕ) → (a ≤ b) ⊎ (b ≤ a)
by_order a b = grind arith

capped_pos : (most a b : ℕ) → 0 < most → 0 < a → 0 < b → (a ≤ most) ⊎ (most ≤ a) → (b ≤ most) ⊎ (most ≤ b) → min (min a most * min b most) most ≡ min (a * b) most
capped_pos most a b pos p q (inl h) (inl k) = both_low most a b h k
capped_pos most a b pos p q (inr h) _ = high_left most a b pos h q
capped_pos most a b pos p q (inl h) (inr k) = swapped most b a (high_left most b a pos k p)

pub capped : (most a b : ℕ) → 0 < most → min (min a most * min b most) most ≡ min (a * b) most
capped most zero b pos = zero_left most b
capped most (suc a) zero pos = swapped most zero (suc a) (zero_left most (suc a))
capped most (suc a) (suc b) pos = capped_pos most (suc a) (suc b) pos (omega arith) (omega arith) (by_order (suc a) most) (by_order (suc b) most)

-- a product that stopped at what a number can be, and then at the limit
pub stopped : (a b c : ℕ) {r : ℕ} → r ≡ min (a * b) 18446744073709551615 → c ≡ min r 1000000 → c ≡ min (a * b) 1000000
stopped a b c e f = omega (arith, e, f)
