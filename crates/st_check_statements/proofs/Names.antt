-- Names in lists.
use Rattle.std.proofs.Common.{◌≡◌, Bool, ◌&&◌, List, [], ◌∷◌, map, refl, ap}
use Rattle.std.specs.List.{list_all}

pub all_names : {A B : Type 0} (p : B → Bool) (f : A → B) (xs : List A) → list_all p (map f xs) ≡ list_all (λ x. p (f x)) xs
all_names p f [] = refl
all_names p f (x ∷ xs) = ap (λ b. p (f x) && b) (all_names p f xs)
