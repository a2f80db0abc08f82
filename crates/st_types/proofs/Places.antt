-- The first of a name, in lists of what has names.
use Rattle.std.proofs.Common.{◌≡◌, ℕ, suc, ◌+◌, Bool, true, false, cond, not, ltb, ◌||◌, List, [], ◌∷◌, length, map, Option, Some, None, is_some, position, refl, sym, ◌∙◌, ap, arith}
use Rattle.std.specs.List.{list_any, position_or_len, prefix_len, slice_get}
use Rattle.std.specs.Option.{option_and_then, option_map}
use Rattle.std.proofs.Math.Numerals.{one-add}
use Rattle.std.proofs.lemmas.Bool.Decides.{nat_tests}
use Rattle.std.proofs.lemmas.List.{length-map}
use Rattle.st_types.proofs.Cases.{by_test}

module _ {X Y : Type 0} (f : X → Y) (test : Y → Bool) where
  prefix_len-map : (xs : List X) → prefix_len test (map f xs) ≡ prefix_len (λ x. test (f x)) xs
  prefix_len-map [] = refl
  prefix_len-map (x ∷ xs) = ap (λ (n : ℕ). cond (test (f x)) (1 + n) 0) (prefix_len-map xs)

-- a place in a list of names is a place in the list of what has them
pub position-map : {X Y : Type 0} (f : X → Y) (test : Y → Bool) (xs : List X) → position test (map f xs) ≡ position (λ x. test (f x)) xs
position-map f test xs = rw (prefix_len-map f (λ y. not (test y)) xs, length-map xs f) refl

-- ---- the first that passes, element by element

module _ {X : Type 0} (test : X → Bool) (x : X) (xs : List X) where
  position-here : test x ≡ true → position test (x ∷ xs) ≡ Some 0
  position-here passes =
      let lt : ltb 0 (length (x ∷ xs)) ≡ true = grind (arith, nat_tests) in
      rw (passes, lt) refl

  position-next : test x ≡ false → position test (x ∷ xs) ≡ option_map suc (position test xs)
  position-next fails = by_test (ltb (position_or_len test xs) (length xs))
      (λ t.
      let lt : ltb (1 + position_or_len test xs) (length (x ∷ xs)) ≡ true = grind (arith, nat_tests) in
      rw (fails, lt, t) (ap (λ (n : ℕ). Some n) (one-add (position_or_len test xs))))
      (λ t.
      let le : ltb (1 + position_or_len test xs) (length (x ∷ xs)) ≡ false = grind (arith, nat_tests) in
      rw (fails, le, t) refl)

-- the first that passes, if there is one
abbrev pub first : {X : Type 0} → (X → Bool) → List X → Option X
first test [] = None
first test (x ∷ xs) = cond (test x) (Some x) (first test xs)

next_get : {X : Type 0} (x : X) (xs : List X) (found : Option ℕ) → option_and_then (slice_get (x ∷ xs)) (option_map suc found) ≡ option_and_then (slice_get xs) found
next_get x xs None = refl
next_get x xs (Some i) = refl

-- it stands at the first place
pub first_at : {X : Type 0} (test : X → Bool) (xs : List X) → option_and_then (slice_get xs) (position test xs) ≡ first test xs
first_at test [] = refl
first_at test (x ∷ xs) = by_test (test x)
    (λ t. ap (option_and_then (slice_get (x ∷ xs))) (position-here test x xs t) ∙ sym (ap (λ (b : Bool). cond b (Some x) (first test xs)) t))
    (λ t. ap (option_and_then (slice_get (x ∷ xs))) (position-next test x xs t) ∙ (next_get x xs (position test xs) ∙ (first_at test xs ∙ sym (ap (λ (b : Bool). cond b (Some x) (first test xs)) t))))

-- there is a first place where one passes
pub position-any : {X : Type 0} (test : X → Bool) (xs : List X) → is_some (position test xs) ≡ list_any test xs
position-any test [] = refl
position-any test (x ∷ xs) = by_test (test x)
    (λ t. ap is_some (position-here test x xs t) ∙ sym (ap (λ (b : Bool). b || list_any test xs) t))
    (λ t. ap is_some (position-next test x xs t) ∙ (next_some (position test xs) ∙ (position-any test xs ∙ sym (ap (λ (b : Bool). b || list_any test xs) t))))
  where
    next_some : (found : Option ℕ) → is_some (option_map suc found) ≡ is_some found
    next_some None = refl
    next_some (Some i) = refl

pub list_any-map : {X Y : Type 0} (f : X → Y) (test : Y → Bool) (xs : List X) → list_any test (map f xs) ≡ list_any (λ x. test (f x)) xs
list_any-map f test [] = refl
list_any-map f test (x ∷ xs) = ap (λ (b : Bool). test (f x) || b) (list_any-map f test xs)
