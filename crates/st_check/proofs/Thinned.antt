-- Lists of which some elements are left out.
use Rattle.std.proofs.Common.{List, [], ◌∷◌, ◌++◌}
use Rattle.std.specs.List.{AllByRecursion as Each}
use Rattle.st_leaves.proofs.Pairs.{Pairwise}

-- the first list is the second one, without some of its elements
pub data IsThinned {X : Type 0} : List X → List X → Type 0 where
  done : IsThinned [] []
  left_out : {x : X} {xs ys : List X} → IsThinned xs ys → IsThinned xs (x ∷ ys)
  kept : {x : X} {xs ys : List X} → IsThinned xs ys → IsThinned (x ∷ xs) (x ∷ ys)

module _ {X : Type 0} where
  pub thinned_all : (xs : List X) → IsThinned xs xs
  thinned_all [] = done
  thinned_all (x ∷ xs) = kept (thinned_all xs)

  pub thinned_none : (ys : List X) → IsThinned [] ys
  thinned_none [] = done
  thinned_none (y ∷ ys) = left_out (thinned_none ys)

  pub thinned_append : {xs ys more others : List X} → IsThinned xs ys → IsThinned more others → IsThinned (xs ++ more) (ys ++ others)
  thinned_append done h = h
  thinned_append (left_out w) h = left_out (thinned_append w h)
  thinned_append (kept w) h = kept (thinned_append w h)

  pub each_thinned : (P : X → Type 0) {xs ys : List X} → IsThinned xs ys → Each P ys → Each P xs
  each_thinned P done all = tt
  each_thinned P (left_out w) all = each_thinned P w all.1
  each_thinned P (kept w) all = (all.0, each_thinned P w all.1)

  pub pairwise_thinned : (R : X → X → Type 0) {xs ys : List X} → IsThinned xs ys → Pairwise R ys → Pairwise R xs
  pairwise_thinned R done all = tt
  pairwise_thinned R (left_out w) all = pairwise_thinned R w all.1
  pairwise_thinned R (kept {x = x} w) all = (each_thinned (R x) w all.0, pairwise_thinned R w all.1)
