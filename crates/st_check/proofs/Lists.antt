-- Lists.
use Rattle.std.proofs.Common.{◌≡◌, ℕ, zero, suc, ◌<◌, List, [], ◌∷◌, ◌++◌, length, get_or, map, refl, ap, sym, ◌∙◌, subst, arith}
use Rattle.std.specs.List.{All, flat_map}
use Rattle.std.proofs.lemmas.List.Elements.{All-head, All-tail}
use Rattle.st_references.proofs.Lists.{all_left, all_right}

-- what holds of what is read, where it holds of each
pub all_read : {X Y : Type 0} (P : Y → Type 0) (f : X → Y) (xs : List X) (i : ℕ) (x : X) → i < length xs → x ≡ get_or xs i x → All P (map f xs) → P (f x)
all_read P f [] i x below is all = absurd (omega (arith, below))
all_read P f (y ∷ ys) zero x below is all = subst (λ z. P (f z)) (sym is) (All-head P (f y) (map f ys) all)
all_read P f (y ∷ ys) (suc i) x below is all = all_read P f ys i x (omega (arith, below)) is (All-tail P (f y) (map f ys) all)

-- two functions that give the same for each element, where that follows of what is listed for it
pub flat_map-same : {A B : Type 0} (P : ℕ → Type 0) (listed : A → List ℕ) (f g : A → List B) → ((x : A) → All P (listed x) → f x ≡ g x)
    → (xs : List A) → All P (flat_map listed xs) → flat_map f xs ≡ flat_map g xs
flat_map-same P listed f g same [] all = refl
flat_map-same P listed f g same (x ∷ xs) all =
    ap (λ ys. ys ++ flat_map f xs) (same x (all_left P (listed x) (flat_map listed xs) all))
    ∙ ap (λ ys. g x ++ ys) (flat_map-same P listed f g same xs (all_right P (listed x) (flat_map listed xs) all))
