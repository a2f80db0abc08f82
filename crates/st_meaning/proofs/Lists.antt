-- Lists of a chart's parts, one element more at a time.
use Rattle.std.proofs.Common.{◌≡◌, ℕ, ◌+◌, ◌<◌, Bool, true, false, cond, nat_lt, not, ◌||◌, Some, None, List, [], ◌∷◌, ◌++◌, length, map, take, get_or, refl, ap, sym, ◌∙◌, arith, append-nil}
use Rattle.std.specs.List.{All, flat_map, list_any, position, position_or_len}
use Rattle.std.specs.Option.{is_some}
use Rattle.std.proofs.lemmas.Bool.Decides.{nat_tests}
use Rattle.std.proofs.lemmas.Grind.{flat_map-append}
use Rattle.std.proofs.lemmas.List.{map-append, take_more}
use Rattle.std.proofs.lemmas.List.Elements.{All-append, All-nil}
use Rattle.st_types.proofs.Passing.{passes_within, some_position}

-- ---- one element more

pub flat_more : {X A : Type 0} (f : X → List A) (xs : List X) (i : ℕ) (x : X) → i < length xs → x ≡ get_or xs i x → flat_map f (take (i + 1) xs) ≡ flat_map f (take i xs) ++ f x
flat_more f xs i x within at =
    ap (flat_map f) (take_more xs i x within) ∙ flat_map-append f (take i xs) (get_or xs i x ∷ [])
    ∙ ap (λ ys. flat_map f (take i xs) ++ ys) (append-nil (f (get_or xs i x)) ∙ ap f (sym at))

-- that has no part of the kind
pub flat_same : {X A : Type 0} (f : X → List A) (xs : List X) (i : ℕ) (x : X) → i < length xs → x ≡ get_or xs i x → f x ≡ [] → flat_map f (take (i + 1) xs) ≡ flat_map f (take i xs)
flat_same f xs i x within at none = flat_more f xs i x within at ∙ ap (λ ys. flat_map f (take i xs) ++ ys) none ∙ append-nil (flat_map f (take i xs))

-- that has one
pub flat_one : {X A : Type 0} (f : X → List A) (xs : List X) (i : ℕ) (x : X) (a : A) → i < length xs → x ≡ get_or xs i x → f x ≡ a ∷ [] → flat_map f (take (i + 1) xs) ≡ flat_map f (take i xs) ++ a ∷ []
flat_one f xs i x a within at one = flat_more f xs i x within at ∙ ap (λ ys. flat_map f (take i xs) ++ ys) one

-- what is made of each part
pub mapped_more : {X A B : Type 0} (f : X → List A) (g : A → B) (xs : List X) (i : ℕ) (x : X) (a : A) (now new : List B) (b : B) → i < length xs → x ≡ get_or xs i x → f x ≡ a ∷ []
    → now ≡ map g (flat_map f (take i xs)) → new ≡ now ++ b ∷ [] → b ≡ g a → new ≡ map g (flat_map f (take (i + 1) xs))
mapped_more f g xs i x a now new b within at one so_far added made =
    added ∙ ap (λ ys. ys ++ b ∷ []) so_far ∙ ap (λ y. map g (flat_map f (take i xs)) ++ y ∷ []) made ∙ sym (map-append g (flat_map f (take i xs)) (a ∷ []))
    ∙ ap (map g) (sym (flat_one f xs i x a within at one))

-- ---- places in lists

-- and it is the first such place
pub found_at : {A : Type 0} (p : A → Bool) (xs : List A) (i : ℕ) → position p xs ≡ Some i → position_or_len p xs ≡ i
found_at p xs i is = by (nat_lt (position_or_len p xs) (length xs)) is
  where
    by : (b : Bool) → cond b (Some (position_or_len p xs)) None ≡ Some i → position_or_len p xs ≡ i
    by true e = cc
    by false e = cc

pub found_below : {A : Type 0} (p : A → Bool) (xs : List A) (i : ℕ) → position p xs ≡ Some i → i < length xs
found_below p xs i is = by (nat_lt (position_or_len p xs) (length xs)) refl is
  where
    by : (b : Bool) → nat_lt (position_or_len p xs) (length xs) ≡ b → cond b (Some (position_or_len p xs)) None ≡ Some i → i < length xs
    by true t e = let same : position_or_len p xs ≡ i = cc in grind (arith, nat_tests, t, same)
    by false t e = cc

first_fails : {A : Type 0} (p : A → Bool) (x : A) (xs : List A) → list_any p (x ∷ xs) ≡ false → (p x ≡ false) × (list_any p xs ≡ false)
first_fails p x xs none = by (p x) none
  where
    by : (b : Bool) → (b || list_any p xs) ≡ false → (b ≡ false) × (list_any p xs ≡ false)
    by true e = cc
    by false e = (refl, e)

none_passes : {A : Type 0} (p : A → Bool) (xs : List A) → list_any p xs ≡ false → position_or_len p xs ≡ length xs
none_passes p [] none = refl
none_passes p (x ∷ xs) none =
    let fails = first_fails p x xs none in
    let more = none_passes p xs fails.1 in ap (λ b. cond (not b) (1 + position_or_len p xs) 0) fails.0 ∙ grind (arith, more)

pub found_nowhere : {A : Type 0} (p : A → Bool) (xs : List A) → position p xs ≡ None → position_or_len p xs ≡ length xs
found_nowhere p xs is = none_passes p xs (sym (some_position p xs) ∙ ap is_some is)

-- where one passes
pub any_below : {A : Type 0} (p : A → Bool) (xs : List A) → list_any p xs ≡ true → position_or_len p xs < length xs
any_below p xs any = let t : nat_lt (position_or_len p xs) (length xs) ≡ true = passes_within p xs ∙ any in grind (arith, nat_tests, t)

-- ---- what holds of each

pub each_flat : {X A : Type 0} (P : A → Type 0) (f : X → List A) → ((x : X) → All P (f x)) → (xs : List X) → All P (flat_map f xs)
each_flat P f each [] = All-nil P
each_flat P f each (x ∷ xs) = All-append P (f x) (flat_map f xs) (each x) (each_flat P f each xs)
