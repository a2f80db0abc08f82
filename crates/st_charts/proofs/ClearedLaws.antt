-- Which transitions are cleared, in an engineer's words.
use Rattle.std.specs.List.{list_all}
use Rattle.std.proofs.Common.{◌≡◌, ◌≢◌, ℕ, zero, suc, ◌<◌, true, false, ◌&&◌, not, List, length, get_or, take, ap, sym, ◌∙◌, subst, inl, inr, arith, IsTrue, IsFalse}
use Rattle.std.proofs.lemmas.Bool.{and_from, and_parts, cases_Bool, false_from_ne_true, not-true, true≢false}
use Rattle.std.proofs.lemmas.List.{get_or-take, get_or_default, length-take}
use Rattle.std.proofs.lemmas.List.Folds.{list_all_at, list_any_at}
use Rattle.st_charts.specs.Charts.{AreCleared, cleared_of, cleared_within, is_enabled, is_forestalled}
use Rattle.st_charts.specs.Laws.{ClearedAreDetermined, ClearedBefore, FirstIsCleared, OneComesBefore, OneIsClearedOfAStep, OnlyEnabledAreCleared, OnlySharedAreKept, Precedes}
use Rattle.st_charts.specs.Passages.{IsByPriority, Passage, Set, comes_before, members, passage, share_step}
use Rattle.st_charts.proofs.OrderLemmas.{any_before, before_once}
use Rattle.st_charts.proofs.RankLemmas.{before_some}
use Rattle.st_charts.proofs.TestLemmas.{any_agree, below_some, place_of, some_below_at}

pub one_comes_before : OneComesBefore
one_comes_before ts t u differ = elim (cases_Bool (comes_before ts t u)) as (λ _. comes_before ts u t ≡ not (comes_before ts t u)) [
  | inl is_so ↦ rw is_so (false_from_ne_true (comes_before ts u t) (λ other. before_once ts t u is_so other))
  | inr is_not ↦ rw is_not (before_some ts u t (λ e. differ (sym e)) is_not)
]

-- what all pass each passes
at_all : (p : Set) (ns : List ℕ) (n : ℕ) → list_all p ns ≡ true → members ns n ≡ true → p n ≡ true
at_all p ns n all is =
    let place = place_of ns n is in
    elim (cases_Bool (p n)) as (λ _. p n ≡ true) [
      | inl is_so ↦ is_so
      | inr is_not ↦ absurd (true≢false (sym all ∙ list_all_at p ns place.0 0 place.1 (ap p place.2 ∙ is_not)))
    ]

module _ (ts : List Passage) (active holds cleared : Set) (are : AreCleared ts active holds cleared) where
  cleared_parts : (t : ℕ) → t < length ts → cleared t ≡ true → (holds t ≡ true) × ((is_enabled ts active t ≡ true) × (is_forestalled ts cleared t ≡ false))
  cleared_parts t lt is =
      let one = and_parts (holds t) (is_enabled ts active t && not (is_forestalled ts cleared t)) (sym (are t lt) ∙ is) in
      let two = and_parts (is_enabled ts active t) (not (is_forestalled ts cleared t)) one.1 in
      (one.0, (two.0, not-true (is_forestalled ts cleared t) two.1))

  cleared_from : (t : ℕ) → t < length ts → holds t ≡ true → is_enabled ts active t ≡ true → is_forestalled ts cleared t ≡ false → cleared t ≡ true
  cleared_from t lt h e f = are t lt ∙ and_from (holds t) (is_enabled ts active t && not (is_forestalled ts cleared t)) h (and_from (is_enabled ts active t) (not (is_forestalled ts cleared t)) e (ap not f))

  forestalls : (t u : ℕ) → t < length ts → u < length ts → comes_before ts t u ≡ true → cleared t ≡ true → share_step ts t u ≡ true → cleared u ≡ true → ⊥
  forestalls t u t_in u_in before is shares other =
      true≢false (sym (some_below_at (length ts) (λ v. comes_before ts v u && (cleared v && share_step ts v u)) t t_in
      (and_from (comes_before ts t u) (cleared t && share_step ts t u) before (and_from (cleared t) (share_step ts t u) is shares)))
      ∙ (cleared_parts u u_in other).1.1)

  only_enabled : (t : ℕ) → t < length ts → cleared t ≡ true → (holds t ≡ true) × ((s : ℕ) → Precedes ts s t → active s ≡ true)
  only_enabled t lt is =
      let parts = cleared_parts t lt is in
      (parts.0, λ s before. at_all active (passage ts t).before s parts.1.0 before)

  shared : (s t u : ℕ) → Precedes ts s t → Precedes ts s u → share_step ts t u ≡ true
  shared s t u one other =
      let place = place_of (passage ts u).before s other in
      list_any_at (members (passage ts t).before) (passage ts u).before place.0 0 place.1 (ap (members (passage ts t).before) place.2 ∙ one)

  one_of_a_step : (s t u : ℕ) → t < length ts → u < length ts → t ≢ u → Precedes ts s t → Precedes ts s u → cleared t ≡ true → cleared u ≡ false
  one_of_a_step s t u t_in u_in differ one other is = elim (cases_Bool (cleared u)) as (λ _. cleared u ≡ false) [
    | inr is_not ↦ is_not
    | inl is_so ↦ elim (cases_Bool (comes_before ts t u)) as (λ _. cleared u ≡ false) [
      | inl before ↦ absurd (forestalls t u t_in u_in before is (shared s t u one other) is_so)
      | inr after ↦ absurd (forestalls u t u_in t_in (before_some ts u t (λ e. differ (sym e)) after) is_so (shared s u t other one) is)
    ]
  ]

  -- what forestalls a transition
  forestalling : (t : ℕ) → is_forestalled ts cleared t ≡ true → ClearedBefore ts cleared t
  forestalling t is =
      let found = below_some (length ts) (λ u. comes_before ts u t && (cleared u && share_step ts u t)) is in
      let one = and_parts (comes_before ts found.0 t) (cleared found.0 && share_step ts found.0 t) found.2 in
      let two = and_parts (cleared found.0) (share_step ts found.0 t) one.1 in
      record { other = found.0; within = found.1; before = one.0; is_cleared = two.0; shares = two.1 }

  first : (t : ℕ) → t < length ts → holds t ≡ true → is_enabled ts active t ≡ true
      → ((u : ℕ) → u < length ts → IsTrue (comes_before ts u t) → IsTrue (share_step ts u t) → IsTrue (holds u) → IsFalse (is_enabled ts active u))
      → cleared t ≡ true
  first t lt h e none = elim (cases_Bool (is_forestalled ts cleared t)) as (λ _. cleared t ≡ true) [
    | inr is_not ↦ cleared_from t lt h e is_not
    | inl is_so ↦
        let by : ClearedBefore ts cleared t = forestalling t is_so in
        let parts = cleared_parts by.other by.within by.is_cleared in
        absurd (true≢false (sym parts.1.0 ∙ none by.other by.within by.before by.shares parts.0))
  ]

  kept : (t : ℕ) → t < length ts → holds t ≡ true → is_enabled ts active t ≡ true → cleared t ≡ false → ClearedBefore ts cleared t
  kept t lt h e is = elim (cases_Bool (is_forestalled ts cleared t)) as (λ _. ClearedBefore ts cleared t) [
    | inr is_not ↦ absurd (true≢false (sym (cleared_from t lt h e is_not) ∙ is))
    | inl is_so ↦ forestalling t is_so
  ]

pub only_enabled_are_cleared : OnlyEnabledAreCleared
only_enabled_are_cleared = only_enabled

pub one_is_cleared_of_a_step : OneIsClearedOfAStep
one_is_cleared_of_a_step = one_of_a_step

pub first_is_cleared : FirstIsCleared
first_is_cleared = first

pub only_shared_are_kept : OnlySharedAreKept
only_shared_are_kept = kept

-- ---- one outcome

module _ (ts : List Passage) (order : List ℕ) (active holds : Set) (by : IsByPriority ts order) where
  -- What is cleared before a place decides whether what stands there is forestalled.
  forestalled_like : (f g : Set) (k : ℕ) → k < length order → ((j : ℕ) → j < k → f (get_or order j 0) ≡ g (get_or order j 0))
      → is_forestalled ts f (get_or order k 0) ≡ is_forestalled ts g (get_or order k 0)
  forestalled_like f g k lt same =
      sym (any_before ts order by (λ u. f u && share_step ts u (get_or order k 0)) k lt)
      ∙ any_agree (λ u. f u && share_step ts u (get_or order k 0)) (λ u. g u && share_step ts u (get_or order k 0)) (take k order)
      (λ j d in'.
      let below : j < k = omega (arith, in', length-take k order) in
      ap (λ b. b && share_step ts (get_or (take k order) j d) (get_or order k 0))
      (subst (λ t. f t ≡ g t) (sym (get_or-take k order j d below ∙ get_or_default order j d 0 (omega (arith, below)))) (same j below)))
      ∙ any_before ts order by (λ u. g u && share_step ts u (get_or order k 0)) k lt

  -- as far as so many come one before the other
  determined_within : (cleared : Set) → AreCleared ts active holds cleared → (n k : ℕ) → k < n → k < length order
      → cleared (get_or order k 0) ≡ cleared_within n ts active holds (get_or order k 0)
  determined_within cleared are zero k below lt = absurd (omega arith)
  determined_within cleared are (suc n) k below lt =
      are (get_or order k 0) (by.numbers k 0 lt)
      ∙ ap (λ b. holds (get_or order k 0) && (is_enabled ts active (get_or order k 0) && not b))
      (forestalled_like cleared (cleared_within n ts active holds) k lt (λ j in'. determined_within cleared are n j (omega arith) (omega arith)))

  -- and no further
  settled : (m n k : ℕ) → k < m → k < n → k < length order
      → cleared_within m ts active holds (get_or order k 0) ≡ cleared_within n ts active holds (get_or order k 0)
  settled zero n k one other lt = absurd (omega arith)
  settled (suc m) zero k one other lt = absurd (omega arith)
  settled (suc m) (suc n) k one other lt =
      ap (λ b. holds (get_or order k 0) && (is_enabled ts active (get_or order k 0) && not b))
      (forestalled_like (cleared_within m ts active holds) (cleared_within n ts active holds) k lt (λ j in'. settled m n j (omega arith) (omega arith) (omega arith)))

  worked_out : AreCleared ts active holds (cleared_of ts active holds)
  worked_out t lt =
      let place = place_of order t (by.complete t lt) in
      subst (λ u. cleared_of ts active holds u ≡ (holds u && (is_enabled ts active u && not (is_forestalled ts (cleared_of ts active holds) u)))) place.2
      (settled (length ts) (suc (length ts)) place.0 (omega (arith, place.1, by.count)) (omega (arith, place.1, by.count)) place.1)

  no_other : (cleared : Set) → AreCleared ts active holds cleared → (t : ℕ) → t < length ts → cleared t ≡ cleared_of ts active holds t
  no_other cleared are t lt =
      let place = place_of order t (by.complete t lt) in
      subst (λ u. cleared u ≡ cleared_of ts active holds u) place.2
      (determined_within cleared are (length ts) place.0 (omega (arith, place.1, by.count)) place.1)

pub cleared_are_determined : ClearedAreDetermined
cleared_are_determined ts order active holds by = (worked_out ts order active holds by, no_other ts order active holds by)
