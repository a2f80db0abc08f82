-- Lists of rows.
use Rattle.std.proofs.Common.{◌≡◌, ◌≢◌, ℕ, zero, suc, ◌+◌, ◌<◌, List, [], ◌∷◌, ◌++◌, length, get_or, take, drop, nat_eq, cond, refl, ap, sym, ◌∙◌, subst, arith, ◌⊎◌, inl, inr, length-append}
use Rattle.std.specs.List.{AllPairs, Contains}
use Rattle.std.proofs.Math.Seq.{drop-cons, get_or-append_seam}
use Rattle.std.proofs.lemmas.Bool.Decides.{nat_tests}
use Rattle.std.proofs.lemmas.List.{get_or_append_left, take-append-drop}
use Rattle.std.proofs.lemmas.List.Sums.{sum_by-append}
use Rattle.std.proofs.lemmas.List.Elements.{Contains-push_cases}
use Rattle.st_references.specs.Walks.{occurrences}

pub Contains-nil : (a : ℕ) → Contains [] a → ⊥
Contains-nil a h = omega (arith, h.1)

pub Contains-single : (a b : ℕ) → Contains (b ∷ []) a → b ≡ a
Contains-single a b h = elim (Contains-push_cases [] b a h) as (λ _. b ≡ a) [ inl k ↦ absurd (Contains-nil a k) | inr k ↦ k ]

pub Contains-head : (a : ℕ) (rows : List ℕ) → Contains (a ∷ rows) a
Contains-head a rows = (0, omega arith, refl)

pub Contains-tail : (a b : ℕ) (rows : List ℕ) → Contains rows a → Contains (b ∷ rows) a
Contains-tail a b rows h = (suc h.0, omega (arith, h.1), h.2)

pub Contains-cons_cases : (a b : ℕ) (rows : List ℕ) → Contains (b ∷ rows) a → (b ≡ a) ⊎ Contains rows a
Contains-cons_cases a b rows (zero, h, e) = inl e
Contains-cons_cases a b rows (suc k, h, e) = inr (k, omega (arith, h), e)

pub same_or_not : (a b : ℕ) → (a ≡ b) ⊎ (a ≡ b → ⊥)
same_or_not a b = grind arith

-- how often a row stands in two lists, and in a list of one row
pub occurrences-append : (a : ℕ) (rows others : List ℕ) → occurrences a (rows ++ others) ≡ occurrences a rows + occurrences a others
occurrences-append a rows others = sum_by-append (λ x. cond (nat_eq a x) 1 0) rows others

pub occurrences-same : (a b : ℕ) → a ≡ b → occurrences a (b ∷ []) ≡ 1
occurrences-same a b h = grind (arith, nat_tests)

pub occurrences-other : (a b : ℕ) → (a ≡ b → ⊥) → occurrences a (b ∷ []) ≡ 0
occurrences-other a b h = grind (arith, nat_tests)

-- what a list contains is what stands in it at least once
pub occurs : (a : ℕ) (rows : List ℕ) → Contains rows a → 0 < occurrences a rows
occurs a [] h = absurd (Contains-nil a h)
occurs a (b ∷ rows) h = elim (Contains-cons_cases a b rows h) as (λ _. 0 < occurrences a (b ∷ rows)) [
  | inl e ↦ omega (arith, occurrences-append a (b ∷ []) rows, occurrences-same a b (sym e))
  | inr k ↦ omega (arith, occurrences-append a (b ∷ []) rows, occurs a rows k)
]

pub contained : (a : ℕ) (rows : List ℕ) → 0 < occurrences a rows → Contains rows a
contained a [] h = absurd (omega (arith, h))
contained a (b ∷ rows) h = elim (same_or_not a b) as (λ _. Contains (b ∷ rows) a) [
  | inl e ↦ subst (λ x. Contains (x ∷ rows) a) e (Contains-head a rows)
  | inr n ↦ Contains-tail a b rows (contained a rows (omega (arith, h, occurrences-append a (b ∷ []) rows, occurrences-other a b n)))
]

-- a row at a place, with those before and after it
pub split_place : (rows : List ℕ) (place a : ℕ) → place < length rows → get_or rows place a ≡ a → rows ≡ take place rows ++ a ∷ drop (suc place) rows
split_place rows place a below is = sym (take-append-drop place rows)
    ∙ ap (λ rest. take place rows ++ rest) (drop-cons rows place a below ∙ ap (λ b. b ∷ drop (suc place) rows) is)

pub split_at : (rows : List ℕ) (a : ℕ) → Contains rows a → (before : List ℕ) × (after : List ℕ) × (rows ≡ before ++ a ∷ after)
split_at rows a (place, below, is) = (take place rows, drop (suc place) rows, split_place rows place a below is)

-- where a row stands in a list with one row more
pub split_push : (rows before after : List ℕ) (a b : ℕ) → rows ++ b ∷ [] ≡ before ++ a ∷ after
    → ((rows ≡ before) × (b ≡ a)) ⊎ ((rest : List ℕ) × (rows ≡ before ++ a ∷ rest))
split_push [] [] after a b e = inl (refl, cc)
split_push [] (x ∷ []) after a b e = let no : ⊥ = cc in absurd no
split_push [] (x ∷ y ∷ before) after a b e = let no : ⊥ = cc in absurd no
split_push (x ∷ rows) [] after a b e =
    let head : x ≡ a = cc in
    inr (rows, ap (λ y. y ∷ rows) head)
split_push (x ∷ rows) (y ∷ before) after a b e =
    let head : x ≡ y = cc in
    let tail : rows ++ b ∷ [] ≡ before ++ a ∷ after = cc in
    elim (split_push rows before after a b tail) as (λ _. ((x ∷ rows ≡ y ∷ before) × (b ≡ a)) ⊎ ((rest : List ℕ) × (x ∷ rows ≡ y ∷ before ++ a ∷ rest))) [
      | inl p ↦ inl (cc (p.0, head), p.1)
      | inr p ↦ inr (p.0, cc (p.1, head))
    ]

-- where no row stands twice, a row doesn't stand before itself
pub once_only : (before after : List ℕ) (a : ℕ) → AllPairs (λ b c. b ≢ c) (before ++ a ∷ after) → Contains before a → ⊥
once_only before after a h k =
    h k.0 (length before) a k.1 (omega (arith, length-append before (a ∷ after)))
    (get_or_append_left before (a ∷ after) a k.0 k.1 ∙ k.2 ∙ sym (get_or-append_seam before a after a))

-- what holds of each row and each later one
pub pairs_last : (R : ℕ → ℕ → Type 0) (rows : List ℕ) (a b : ℕ) → AllPairs R (rows ++ a ∷ []) → Contains rows b → R b a
pairs_last R rows a b h k =
    let first : get_or (rows ++ a ∷ []) k.0 b ≡ b = get_or_append_left rows (a ∷ []) b k.0 k.1 ∙ k.2 in
    let last : get_or (rows ++ a ∷ []) (length rows) b ≡ a = get_or-append_seam rows a [] b in
    let pair : R (get_or (rows ++ a ∷ []) k.0 b) (get_or (rows ++ a ∷ []) (length rows) b) = h k.0 (length rows) b k.1 (omega (arith, length-append rows (a ∷ []))) in
    subst (λ x. R x a) first (subst (R (get_or (rows ++ a ∷ []) k.0 b)) last pair)

pub pairs_shorter : (R : ℕ → ℕ → Type 0) (rows : List ℕ) (a : ℕ) → AllPairs R (rows ++ a ∷ []) → AllPairs R rows
pairs_shorter R rows a h i j d lt le =
    let first : get_or (rows ++ a ∷ []) i d ≡ get_or rows i d = get_or_append_left rows (a ∷ []) d i (omega (arith, lt, le)) in
    let second : get_or (rows ++ a ∷ []) j d ≡ get_or rows j d = get_or_append_left rows (a ∷ []) d j le in
    let pair : R (get_or (rows ++ a ∷ []) i d) (get_or (rows ++ a ∷ []) j d) = h i j d lt (omega (arith, le, length-append rows (a ∷ []))) in
    subst (λ x. R x (get_or rows j d)) first (subst (R (get_or (rows ++ a ∷ []) i d)) second pair)
