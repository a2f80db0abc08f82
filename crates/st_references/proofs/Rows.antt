-- What a row becomes.
use Rattle.std.proofs.Common.{◌≡◌, List, ◌++◌, ◌∙◌, ap, sym, append_assoc, map}
use Rattle.std.proofs.lemmas.Grind.{flat_map-append}
use Rattle.std.proofs.lemmas.List.Folds.{flat_map-map}
use Rattle.std.specs.List.{flat_map}

-- what is added in two steps is added in one
pub joined : {A B : Type 0} (f : A → List B) (row row1 row2 : List B) (xs ys : List A)
    → row1 ≡ row ++ flat_map f xs → row2 ≡ row1 ++ flat_map f ys → row2 ≡ row ++ flat_map f (xs ++ ys)
joined f row row1 row2 xs ys first second =
    second ∙ ap (λ r. r ++ flat_map f ys) first ∙ append_assoc row (flat_map f xs) (flat_map f ys) ∙ ap (λ zs. row ++ zs) (sym (flat_map-append f xs ys))

-- the calls of a list of nodes
pub all_mapped : {A B : Type 0} (calls : A → List B) (xs : List A) → flat_map (λ x. x) (map calls xs) ≡ flat_map calls xs
all_mapped calls xs = flat_map-map (λ x. x) calls xs
