-- Lists of which some items are changed.
use Rattle.std.proofs.Common.{◌≡◌, ℕ, ◌<◌, Bool, true, false, ◌||◌, cond, List, length, get_or, refl, ap, ◌∙◌, arith}
use Rattle.st_charts.specs.Passages.{Set}
use Rattle.st_charts.specs.Stages.{Changes}

twice : {X : Type 0} (change : X → X) (x : X) → change (change x) ≡ change x → (p q : Bool)
    → cond q (change (cond p (change x) x)) (cond p (change x) x) ≡ cond (p || q) (change x) x
twice change x same true true = same
twice change x same true false = refl
twice change x same false true = refl
twice change x same false false = refl

-- one change behind another
pub changes_both : {X : Type 0} (change : X → X) (p q : Set) (xs ys zs : List X) → ((x : X) → change (change x) ≡ change x)
    → length ys ≡ length xs → Changes change p xs ys → Changes change q ys zs → Changes change (λ n. p n || q n) xs zs
changes_both change p q xs ys zs same long first second n d lt =
    let in_ys : n < length ys = omega arith in
    second n d in_ys ∙ ap (λ y. cond (q n) (change y) y) (first n d lt) ∙ twice change (get_or xs n d) (same (get_or xs n d)) (p n) (q n)

-- the same set in other words
pub changes_like : {X : Type 0} (change : X → X) (p q : Set) (xs ys : List X) → ((n : ℕ) → p n ≡ q n) → Changes change p xs ys → Changes change q xs ys
changes_like change p q xs ys like given n d lt =
    given n d lt ∙ ap (λ b. cond b (change (get_or xs n d)) (get_or xs n d)) (like n)
