-- Tests of the items of lists, and of numbers.
use Rattle.std.specs.List.{All, list_all, list_any}
use Rattle.std.proofs.Common.{◌≡◌, ℕ, zero, suc, ◌<◌, Bool, true, false, ◌&&◌, ◌||◌, not, List, [], ◌∷◌, length, get_or, refl, ap, sym, ◌∙◌, subst, inl, inr, arith, eqb}
use Rattle.std.proofs.lemmas.Bool.{cases_eq, eqb-true, or_cases, or_left, or_right}
use Rattle.std.proofs.lemmas.List.{get_or_default}
use Rattle.std.proofs.lemmas.List.Elements.{All-head, All-tail}
use Rattle.std.proofs.lemmas.List.Folds.{Any-from_list_any}
use Rattle.st_charts.specs.Passages.{Set, members, some_below}

-- two tests that are TRUE together are the same
pub same_truth : (a b : Bool) → (a ≡ true → b ≡ true) → (b ≡ true → a ≡ true) → a ≡ b
same_truth true b to from = sym (to refl)
same_truth false true to from = from refl
same_truth false false to from = refl

pub any_agree : {X : Type 0} (p q : X → Bool) (xs : List X) → All (λ x. p x ≡ q x) xs → list_any p xs ≡ list_any q xs
any_agree p q [] same = refl
any_agree p q (x ∷ xs) same =
    let here : p x ≡ q x = All-head (λ y. p y ≡ q y) x xs same in
    let more = any_agree p q xs (All-tail (λ y. p y ≡ q y) x xs same) in
    cc

pub all_agree : {X : Type 0} (p q : X → Bool) (xs : List X) → All (λ x. p x ≡ q x) xs → list_all p xs ≡ list_all q xs
all_agree p q [] same = refl
all_agree p q (x ∷ xs) same =
    let here : p x ≡ q x = All-head (λ y. p y ≡ q y) x xs same in
    let more = all_agree p q xs (All-tail (λ y. p y ≡ q y) x xs same) in
    cc

and_not : (a b c d : Bool) → ((a && not b) && (c && not d)) ≡ ((a && c) && not (b || d))
and_not true true true d = refl
and_not true true false d = refl
and_not true false c d = refl
and_not false b c d = refl

-- all pass the one test, and none the other
pub all_and_not : {X : Type 0} (p q : X → Bool) (xs : List X) → list_all (λ x. p x && not (q x)) xs ≡ (list_all p xs && not (list_any q xs))
all_and_not p q [] = refl
all_and_not p q (x ∷ xs) = ap (λ b. (p x && not (q x)) && b) (all_and_not p q xs) ∙ and_not (p x) (q x) (list_all p xs) (list_any q xs)

or_four : (a b c d : Bool) → ((a || b) || (c || d)) ≡ ((a || c) || (b || d))
or_four true b c d = refl
or_four false true true d = refl
or_four false true false d = refl
or_four false false c d = refl

any_or : {X : Type 0} (p q : X → Bool) (xs : List X) → list_any (λ x. p x || q x) xs ≡ (list_any p xs || list_any q xs)
any_or p q [] = refl
any_or p q (x ∷ xs) = ap (λ b. (p x || q x) || b) (any_or p q xs) ∙ or_four (p x) (q x) (list_any p xs) (list_any q xs)

any_never : {X : Type 0} (xs : List X) → list_any (λ x. false) xs ≡ false
any_never [] = refl
any_never (x ∷ xs) = any_never xs

any_and : {X : Type 0} (b : Bool) (p : X → Bool) (xs : List X) → list_any (λ x. b && p x) xs ≡ (b && list_any p xs)
any_and true p xs = refl
any_and false p xs = any_never xs

-- whether there is a pair, looked for from the one side or from the other
pub any_swap : {X Y : Type 0} (m : Y → Bool) (r : Y → X → Bool) (ys : List Y) (xs : List X)
    → list_any (λ x. list_any (λ y. m y && r y x) ys) xs ≡ list_any (λ y. m y && list_any (r y) xs) ys
any_swap m r [] xs = any_never xs
any_swap m r (y ∷ ys) xs =
    any_or (λ x. m y && r y x) (λ x. list_any (λ z. m z && r z x) ys) xs
    ∙ ap (λ b. b || list_any (λ x. list_any (λ z. m z && r z x) ys) xs) (any_and (m y) (r y) xs)
    ∙ ap (λ b. (m y && list_any (r y) xs) || b) (any_swap m r ys xs)

-- a number below `count` that is in the set
pub some_below_at : (count : ℕ) (set : Set) (n : ℕ) → n < count → set n ≡ true → some_below count set ≡ true
some_below_at zero set n lt is = absurd (omega arith)
some_below_at (suc c) set n lt is = elim (cases_eq n c) as (λ _. (set c || some_below c set) ≡ true) [
  | inl e ↦ or_left (set c) (some_below c set) (subst (λ k. set k ≡ true) e is)
  | inr ne ↦ or_right (set c) (some_below c set) (some_below_at c set n (omega arith) is)
]

pub below_some : (count : ℕ) (set : Set) → some_below count set ≡ true → (n : ℕ) × (n < count) × (set n ≡ true)
below_some zero set is = cc
below_some (suc c) set is = elim (or_cases (set c) (some_below c set) is) as (λ _. (n : ℕ) × (n < suc c) × (set n ≡ true)) [
  | inl here ↦ (c, omega arith, here)
  | inr more ↦ let found = below_some c set more in (found.0, omega (arith, found.1), found.2)
]

-- the place of a number in a list
pub place_of : (ns : List ℕ) (n : ℕ) → members ns n ≡ true → (k : ℕ) × (k < length ns) × (get_or ns k 0 ≡ n)
place_of ns n is =
    let found = Any-from_list_any (λ m. eqb m n) ns is in
    (found.0, found.2, get_or_default ns found.0 0 found.1 found.2 ∙ found.3 ∙ eqb-true found.1 n found.4)
