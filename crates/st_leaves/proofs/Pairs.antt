-- What holds of each element, and of each element and each later one, by recursion on the list.
use Rattle.std.proofs.Common.{◌≡◌, Bool, true, List, [], ◌∷◌, ◌++◌, map, AllPairs, zero, suc, arith}
use Rattle.std.specs.List.{AllByRecursion as Each, filter}
use Rattle.std.proofs.lemmas.Bool.{cond_both}
use Rattle.std.proofs.lemmas.List.Elements.{All-from_recursion, recursion_from_All}
use Rattle.std.proofs.lemmas.List.Kept.{AllPairs-cons}

module _ {X : Type 0} (P : X → Type 0) where
  pub each_append : (xs ys : List X) → Each P xs → Each P ys → Each P (xs ++ ys)
  each_append [] ys first second = second
  each_append (x ∷ xs) ys first second = (first.0, each_append xs ys first.1 second)

  pub each_parts : (xs ys : List X) → Each P (xs ++ ys) → Each P xs × Each P ys
  each_parts [] ys all = (tt, all)
  each_parts (x ∷ xs) ys all = ((all.0, (each_parts xs ys all.1).0), (each_parts xs ys all.1).1)

  pub each_any : (xs : List X) → ((x : X) → P x) → Each P xs
  each_any [] any = tt
  each_any (x ∷ xs) any = (any x, each_any xs any)

  pub each_map : {Y : Type 0} (f : Y → X) (ys : List Y) → Each (λ y. P (f y)) ys → Each P (map f ys)
  each_map f [] all = tt
  each_map f (y ∷ ys) all = (all.0, each_map f ys all.1)

  pub each_mapped : {Y : Type 0} (f : Y → X) (ys : List Y) → Each P (map f ys) → Each (λ y. P (f y)) ys
  each_mapped f [] all = tt
  each_mapped f (y ∷ ys) all = (all.0, each_mapped f ys all.1)

  pub each_weaker : (Q : X → Type 0) (xs : List X) → ((x : X) → P x → Q x) → Each P xs → Each Q xs
  each_weaker Q [] weaker all = tt
  each_weaker Q (x ∷ xs) weaker all = (weaker x all.0, each_weaker Q xs weaker all.1)

  pub each_filter : (p : X → Bool) (xs : List X) → Each P xs → Each P (filter p xs)
  each_filter p [] all = tt
  each_filter p (x ∷ xs) all =
      cond_both (p x) (x ∷ filter p xs) (filter p xs) (Each P) (λ kept. (all.0, each_filter p xs all.1)) (λ left. each_filter p xs all.1)

-- those that are left pass
pub each_passes : {X : Type 0} (p : X → Bool) (xs : List X) → Each (λ x. p x ≡ true) (filter p xs)
each_passes p [] = tt
each_passes p (x ∷ xs) =
    cond_both (p x) (x ∷ filter p xs) (filter p xs) (Each (λ y. p y ≡ true)) (λ kept. (kept, each_passes p xs)) (λ left. each_passes p xs)

-- R holds of each element and each later one
abbrev pub Pairwise : {X : Type 0} → (X → X → Type 0) → List X → Type 0
Pairwise R [] = Unit {0}
Pairwise R (x ∷ xs) = Each (R x) xs × Pairwise R xs

-- R holds of each of the first and each of the second
abbrev pub Between : {X : Type 0} → (X → X → Type 0) → List X → List X → Type 0
Between R xs ys = Each (λ x. Each (R x) ys) xs

module _ {X : Type 0} (R : X → X → Type 0) where
  pub between_none : (xs : List X) → Between R xs []
  between_none xs = each_any (λ x. Each (R x) []) xs (λ x. tt)

  pub between_append : (xs ys zs : List X) → Between R xs ys → Between R xs zs → Between R xs (ys ++ zs)
  between_append [] ys zs first second = tt
  between_append (x ∷ xs) ys zs first second = (each_append (R x) ys zs first.0 second.0, between_append xs ys zs first.1 second.1)

  pub pairwise_append : (xs ys : List X) → Pairwise R xs → Pairwise R ys → Between R xs ys → Pairwise R (xs ++ ys)
  pairwise_append [] ys first second between = second
  pairwise_append (x ∷ xs) ys first second between = (each_append (R x) xs ys first.0 between.0, pairwise_append xs ys first.1 second between.1)

  pub pairwise_parts : (xs ys : List X) → Pairwise R (xs ++ ys) → Pairwise R xs × Pairwise R ys × Between R xs ys
  pairwise_parts [] ys all = (tt, all, tt)
  pairwise_parts (x ∷ xs) ys all =
      let rest = pairwise_parts xs ys all.1 in
      let here = each_parts (R x) xs ys all.0 in
      ((here.0, rest.0), rest.1, (here.1, rest.2))

  pub pairwise_map : {Y : Type 0} (f : Y → X) (ys : List Y) → Pairwise (λ a b. R (f a) (f b)) ys → Pairwise R (map f ys)
  pairwise_map f [] all = tt
  pairwise_map f (y ∷ ys) all = (each_map (R (f y)) f ys all.0, pairwise_map f ys all.1)

  pub pairwise_mapped : {Y : Type 0} (f : Y → X) (ys : List Y) → Pairwise R (map f ys) → Pairwise (λ a b. R (f a) (f b)) ys
  pairwise_mapped f [] all = tt
  pairwise_mapped f (y ∷ ys) all = (each_mapped (R (f y)) f ys all.0, pairwise_mapped f ys all.1)

  pub pairwise_weaker : (Q : X → X → Type 0) (xs : List X) → ((a b : X) → R a b → Q a b) → Pairwise R xs → Pairwise Q xs
  pairwise_weaker Q [] weaker all = tt
  pairwise_weaker Q (x ∷ xs) weaker all = (each_weaker (R x) (Q x) xs (weaker x) all.0, pairwise_weaker Q xs weaker all.1)

  pub pairwise_filter : (p : X → Bool) (xs : List X) → Pairwise R xs → Pairwise R (filter p xs)
  pairwise_filter p [] all = tt
  pairwise_filter p (x ∷ xs) all =
      cond_both (p x) (x ∷ filter p xs) (filter p xs) (Pairwise R) (λ kept. (each_filter (R x) p xs all.0, pairwise_filter p xs all.1)) (λ left. pairwise_filter p xs all.1)

  pub all_pairs : (xs : List X) → Pairwise R xs → AllPairs R xs
  all_pairs [] all = λ i j d before within. absurd (omega arith)
  all_pairs (x ∷ xs) all = AllPairs-cons R x xs (All-from_recursion (R x) xs all.0) (all_pairs xs all.1)

  pub from_all_pairs : (xs : List X) → AllPairs R xs → Pairwise R xs
  from_all_pairs [] all = tt
  from_all_pairs (x ∷ xs) all =
      (recursion_from_All (R x) xs (λ k d within. all zero (suc k) d (omega arith) (omega arith)), from_all_pairs xs (λ i j d before within. all (suc i) (suc j) d (omega arith) (omega arith)))
