-- What a loop over units has made of those that it has passed.
use Rattle.std.proofs.Common.{◌≡◌, ℕ, ◌+◌, ◌<◌, List, [], ◌∷◌, ◌++◌, length, map, take, get_or, refl, sym, add-one}
use Rattle.std.proofs.Math.Seq.{take-suc}
use Rattle.std.proofs.lemmas.List.{map-append}

-- one more unit
pub mapped_more : {A B C : Type 0} (f : B → C) (g : A → B) (xs : List A) (i : ℕ) (x : A) (y : C) (ys : List C) → i < length xs → x ≡ get_or xs i x
    → ys ≡ map f (map g (take i xs)) → y ≡ f (g x) → ys ++ (y ∷ []) ≡ map f (map g (take (i + 1) xs))
mapped_more f g xs i x y ys within is before same =
    rw (before, same, add-one, take-suc xs i x within, sym is, map-append g (take i xs) (x ∷ []), map-append f (map g (take i xs)) (g x ∷ [])) refl
