-- The order of the priorities.
use Rattle.std.specs.List.{list_any}
use Rattle.std.proofs.Common.{◌≡◌, ℕ, ◌<◌, Bool, true, false, ◌&&◌, ◌||◌, not, Option, Some, None, List, length, get_or, take, refl, sym, ◌∙◌, subst, inl, inr, arith, ltb, ltb-true}
use Rattle.std.proofs.lemmas.Bool.{and_from, and_parts, cases_order}
use Rattle.std.proofs.lemmas.List.{get_or-take, length-take-le, get_or_default}
use Rattle.std.proofs.lemmas.List.Folds.{Any-from_list_any, list_any_at}
use Rattle.st_charts.specs.Passages.{IsByPriority, Passage, Set, comes_before, is_sooner, passage, some_below}
use Rattle.st_charts.proofs.TestLemmas.{below_some, place_of, same_truth, some_below_at}

sooner_once : (a b : Option ℕ) → is_sooner a b ≡ true → is_sooner b a ≡ true → ⊥
sooner_once (Some a) (Some b) one other = omega (arith, ltb-true a b one, ltb-true b a other)
sooner_once (Some a) None one other = cc
sooner_once None b one other = cc

-- Of two tests where each is TRUE first, or by a number where neither is.
first_once : (s t : Bool) (a b : ℕ) → (s ≡ true → t ≡ true → ⊥) → (s || (not t && ltb a b)) ≡ true → (t || (not s && ltb b a)) ≡ true → ⊥
first_once true true a b not_both one other = not_both refl refl
first_once true false a b not_both one other = cc
first_once false true a b not_both one other = cc
first_once false false a b not_both one other = omega (arith, ltb-true a b one, ltb-true b a other)

-- Of two transitions at most one comes before the other,
pub before_once : (ts : List Passage) (t u : ℕ) → comes_before ts t u ≡ true → comes_before ts u t ≡ true → ⊥
before_once ts t u =
    first_once (is_sooner (passage ts t).priority (passage ts u).priority) (is_sooner (passage ts u).priority (passage ts t).priority) t u
    (sooner_once (passage ts t).priority (passage ts u).priority)

-- and none before itself.
pub not_before_itself : (ts : List Passage) (t : ℕ) → comes_before ts t t ≡ true → ⊥
not_before_itself ts t is = before_once ts t t is is

module _ (ts : List Passage) (order : List ℕ) (by : IsByPriority ts order) where
  -- No transition stands at two places,
  pub places_differ : (j k : ℕ) → j < k → k < length order → get_or order j 0 ≡ get_or order k 0 → ⊥
  places_differ j k lt within same =
      not_before_itself ts (get_or order k 0) (subst (λ t. comes_before ts t (get_or order k 0) ≡ true) same (by.ordered j k 0 lt within))

  -- and what comes before another stands before it.
  place_before : (j k : ℕ) → j < length order → comes_before ts (get_or order j 0) (get_or order k 0) ≡ true → j < k
  place_before j k within is = elim (cases_order j k) as (λ _. j < k) [
    | inl e ↦ absurd (not_before_itself ts (get_or order k 0) (subst (λ i. comes_before ts (get_or order i 0) (get_or order k 0) ≡ true) e is))
    | inr (inl lt) ↦ lt
    | inr (inr gt) ↦ absurd (before_once ts (get_or order j 0) (get_or order k 0) is (by.ordered k j 0 gt within))
  ]

  -- one of the transitions, wherever it stands
  pub any_in_order : (set : Set) → list_any set order ≡ some_below (length ts) set
  any_in_order set =
      same_truth (list_any set order) (some_below (length ts) set)
      (λ is.
      let found = Any-from_list_any set order is in
      some_below_at (length ts) set found.1
      (subst (λ t. t < length ts) found.3 (by.numbers found.0 found.1 found.2)) found.4)
      (λ is.
      let found = below_some (length ts) set is in
      let place = place_of order found.0 (by.complete found.0 found.1) in
      list_any_at set order place.0 0 place.1 (subst (λ t. set t ≡ true) (sym place.2) found.2))

  -- one of those that stand before a place
  pub any_before : (set : Set) (k : ℕ) → k < length order
      → list_any set (take k order) ≡ some_below (length ts) (λ t. comes_before ts t (get_or order k 0) && set t)
  any_before set k within =
      same_truth (list_any set (take k order)) (some_below (length ts) (λ t. comes_before ts t (get_or order k 0) && set t))
      (λ is.
      let found = Any-from_list_any set (take k order) is in
      let long : length (take k order) ≡ k = length-take-le k order (omega arith) in
      let below : found.0 < k = omega (arith, found.2, long) in
      let same : get_or order found.0 found.1 ≡ found.1 = sym (get_or-take k order found.0 found.1 below) ∙ found.3 in
      some_below_at (length ts) (λ t. comes_before ts t (get_or order k 0) && set t) found.1
      (subst (λ t. t < length ts) same (by.numbers found.0 found.1 (omega (arith, below))))
      (and_from (comes_before ts found.1 (get_or order k 0)) (set found.1)
      (subst (λ t. comes_before ts t (get_or order k 0) ≡ true) (get_or_default order found.0 0 found.1 (omega (arith, below)) ∙ same) (by.ordered found.0 k 0 below within))
      found.4))
      (λ is.
      let found = below_some (length ts) (λ t. comes_before ts t (get_or order k 0) && set t) is in
      let both = and_parts (comes_before ts found.0 (get_or order k 0)) (set found.0) found.2 in
      let place = place_of order found.0 (by.complete found.0 found.1) in
      let below : place.0 < k = place_before place.0 k place.1 (subst (λ t. comes_before ts t (get_or order k 0) ≡ true) (sym place.2) both.0) in
      list_any_at set (take k order) place.0 0 (omega (arith, below, length-take-le k order (omega arith)))
      (subst (λ t. set t ≡ true) (sym place.2 ∙ sym (get_or-take k order place.0 0 below)) both.1))
