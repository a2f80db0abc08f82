-- The front of a list.
use Rattle.std.proofs.Common.{◌≡◌, ℕ, zero, suc, ◌≤◌, List, [], ◌∷◌, ◌++◌, length, take, refl, ap, ◌∙◌, arith}
use Rattle.std.proofs.Math.Seq.{take-append_seam}

pub front_part : {A : Type 0} (n : ℕ) (xs rest : List A) → n ≡ length xs → take n (xs ++ rest) ≡ xs
front_part n xs rest h = ap (λ k. take k (xs ++ rest)) h ∙ take-append_seam xs rest

pub front_within : {A : Type 0} (n m : ℕ) (xs rest : List A) → n ≤ length xs → n ≤ m → take n (take m (xs ++ rest)) ≡ take n xs
front_within zero m xs rest h k = refl
front_within (suc n) zero xs rest h k = absurd (omega (arith, k))
front_within (suc n) (suc m) [] rest h k = absurd (omega (arith, h))
front_within (suc n) (suc m) (x ∷ xs) rest h k = ap (λ ys. x ∷ ys) (front_within n m xs rest (omega (arith, h)) (omega (arith, k)))
