-- Sorted ranks are the order of the priorities.
use Rattle.std.specs.Cmp.{IsTotalOrder, bool_cmp_total}
use Rattle.std.specs.List.{All, Contains, sum_by}
use Rattle.std.specs.List.Sorted.{IsPermutation, IsSorted}
use Rattle.std.specs.Ordering.{bool_cmp, is_lt, nat_cmp, ordering_then}
use Rattle.std.specs.declared.cmp.Ordering.{Ordering}
use Rattle.std.proofs.Common.{◌≡◌, ℕ, zero, suc, ◌+◌, ◌<◌, ◌≤◌, Bool, true, false, ◌&&◌, ◌||◌, not, cond, eqb, ltb, Option, Some, None, List, [], ◌∷◌, length, get_or, map, refl, ap, sym, ◌∙◌, subst, inl, inr, arith}
use Rattle.std.proofs.lemmas.Bool.{cases_eq, eq-eqb, lt-ltb, ltb-false, ne_eqb}
use Rattle.std.proofs.lemmas.Bool.Decides.{nat_tests}
use Rattle.std.proofs.lemmas.Cmp.{nat_cmp_total, on_total, then_total}
use Rattle.std.proofs.lemmas.List.{get_or-map, get_or_default, length-map}
use Rattle.std.proofs.lemmas.List.Elements.{All-map}
use Rattle.std.proofs.lemmas.List.Folds.{list_any_at}
use Rattle.std.proofs.lemmas.List.Sums.{sum_by-cons}
use Rattle.std.proofs.lemmas.List.Sorted.{All-permutation, Contains-permutation, length_permutation, ranks_by, sorted_far, sum_by-IsPermutation}
use Rattle.st_charts.specs.Passages.{IsByPriority, Passage, comes_before, is_sooner, members, passage}
use Rattle.st_charts.specs.Ranks.{AreRanks, Rank, no_rank, rank}

abbrev place : Rank → ℕ
place r = r.2

abbrev pub rank_cmp : Rank → Rank → Ordering
rank_cmp x y = ordering_then (ordering_then (bool_cmp x.0 y.0) (nat_cmp x.1 y.1)) (nat_cmp x.2 y.2)

rank_cmp_total : IsTotalOrder rank_cmp
rank_cmp_total =
    then_total {R = λ x y. ordering_then (bool_cmp x.0 y.0) (nat_cmp x.1 y.1)} {S = λ x y. nat_cmp x.2 y.2}
    (then_total {R = λ x y. bool_cmp x.0 y.0} {S = λ x y. nat_cmp x.1 y.1} (on_total (λ x. x.0) bool_cmp_total) (on_total (λ x. x.1) nat_cmp_total))
    (on_total (λ x. x.2) nat_cmp_total)

-- ---- the order of ranks is that of priorities

by_number : (a b t u : ℕ) → is_lt (ordering_then (nat_cmp a b) (nat_cmp t u)) ≡ (ltb a b || (not (ltb b a) && ltb t u))
by_number a b t u = grind (arith, nat_tests)

by_place : (t u : ℕ) → is_lt (nat_cmp t u) ≡ ltb t u
by_place t u = grind (arith, nat_tests)

pub rank_before : (p q : Option ℕ) (t u : ℕ) → is_lt (rank_cmp (rank p t) (rank q u)) ≡ (is_sooner p q || (not (is_sooner q p) && ltb t u))
rank_before (Some a) (Some b) t u = by_number a b t u
rank_before (Some a) None t u = refl
rank_before None (Some b) t u = refl
rank_before None None t u = by_place t u

rank_place : (p : Option ℕ) (t : ℕ) → place (rank p t) ≡ t
rank_place (Some a) t = refl
rank_place None t = refl

or_before : (s t : Bool) (a b : ℕ) → (a ≡ b → ⊥) → (t || (not s && ltb b a)) ≡ false → (s || (not t && ltb a b)) ≡ true
or_before true t a b differ other = refl
or_before false true a b differ other = cc
or_before false false a b differ other = lt-ltb a b (omega (arith, ltb-false b a other, differ))

-- Of two transitions one comes before the other.
pub before_some : (ts : List Passage) (t u : ℕ) → (t ≡ u → ⊥) → comes_before ts u t ≡ false → comes_before ts t u ≡ true
before_some ts t u =
    or_before (is_sooner (passage ts t).priority (passage ts u).priority) (is_sooner (passage ts u).priority (passage ts t).priority) t u

-- ---- no place stands twice

abbrev here : ℕ → Rank → ℕ
here t r = cond (eqb (place r) t) 1 0

at_place : (t : ℕ) (r : Rank) → place r ≡ t → here t r ≡ 1
at_place t r e = ap (λ b. cond b 1 0) (eq-eqb (place r) t e)

not_there : (t : ℕ) (r : Rank) → (place r ≡ t → ⊥) → here t r ≡ 0
not_there t r ne = ap (λ b. cond b 1 0) (ne_eqb (place r) t ne)

at_most_once : (xs : List Rank) (n t : ℕ) → ((k : ℕ) → k < length xs → place (get_or xs k no_rank) ≡ n + k)
    → (sum_by (here t) xs ≤ 1) × (t < n → sum_by (here t) xs ≡ 0)
at_most_once [] n t places = (omega arith, λ lt. refl)
at_most_once (x ∷ xs) n t places =
    let first : place x ≡ n = omega (arith, places 0 (omega arith)) in
    let more = at_most_once xs (n + 1) t (λ k lt. omega (arith, places (suc k) (omega arith))) in
    let parts : sum_by (here t) (x ∷ xs) ≡ here t x + sum_by (here t) xs = sum_by-cons (here t) x xs in
    elim (cases_eq (place x) t) as (λ _. (sum_by (here t) (x ∷ xs) ≤ 1) × (t < n → sum_by (here t) (x ∷ xs) ≡ 0)) [
      | inl e ↦ (omega (arith, parts, at_place t x e, more.1 (omega arith)), λ lt. absurd (omega arith))
      | inr ne ↦ (omega (arith, parts, not_there t x ne, more.0), λ lt. omega (arith, parts, not_there t x ne, more.1 (omega arith)))
    ]

once : (xs : List Rank) (j t : ℕ) → j < length xs → place (get_or xs j no_rank) ≡ t → 1 ≤ sum_by (here t) xs
once [] j t lt is = absurd (omega arith)
once (x ∷ xs) zero t lt is = omega (arith, sum_by-cons (here t) x xs, at_place t x is)
once (x ∷ xs) (suc j) t lt is = omega (arith, sum_by-cons (here t) x xs, once xs j t (omega arith) is)

twice : (xs : List Rank) (i j t : ℕ) → i < j → j < length xs → place (get_or xs i no_rank) ≡ t → place (get_or xs j no_rank) ≡ t → 2 ≤ sum_by (here t) xs
twice [] i j t below lt one other = absurd (omega arith)
twice (x ∷ xs) i zero t below lt one other = absurd (omega arith)
twice (x ∷ xs) zero (suc j) t below lt one other = omega (arith, sum_by-cons (here t) x xs, at_place t x one, once xs j t (omega arith) other)
twice (x ∷ xs) (suc i) (suc j) t below lt one other = omega (arith, sum_by-cons (here t) x xs, twice xs i j t (omega arith) (omega arith) one other)

-- ---- sorted ranks

-- the rank of a transition
abbrev IsRank : List Passage → Rank → Type 0
IsRank ts r = (place r < length ts) × (r ≡ rank (passage ts (place r)).priority (place r))

module _ (ts : List Passage) (ranks sorted : List Rank) (are : AreRanks ts ranks) (moved : IsPermutation ranks sorted) (up : IsSorted rank_cmp sorted) where
  place_at : (t : ℕ) (d : Rank) → t < length ts → get_or ranks t d ≡ rank (passage ts t).priority t
  place_at t d lt = get_or_default ranks t d no_rank (omega (arith, are.count)) ∙ are.each t lt

  all_ranks : All (IsRank ts) sorted
  all_ranks = All-permutation (IsRank ts) ranks sorted moved (λ k d lt.
      let within : k < length ts = omega (arith, are.count) in
      subst (IsRank ts) (sym (place_at k d within)) (
        subst (λ n. n < length ts) (sym (rank_place (passage ts k).priority k)) within,
        ap (λ n. rank (passage ts n).priority n) (sym (rank_place (passage ts k).priority k)),
      ))

  places_differ : (i j : ℕ) → i < j → j < length sorted → place (get_or sorted i no_rank) ≡ place (get_or sorted j no_rank) → ⊥
  places_differ i j below lt same =
      let t : ℕ = place (get_or sorted j no_rank) in
      omega (
        arith,
        twice sorted i j (place (get_or sorted j no_rank)) below lt same refl,
        sum_by-IsPermutation (here (place (get_or sorted j no_rank))) ranks sorted moved,
        (at_most_once ranks 0 (place (get_or sorted j no_rank)) (λ k in'.
            omega (arith, ap place (place_at k no_rank (omega (arith, in', are.count))), rank_place (passage ts k).priority k))).0,
      )

  in_order : (i j : ℕ) → i < j → j < length sorted → comes_before ts (place (get_or sorted i no_rank)) (place (get_or sorted j no_rank)) ≡ true
  in_order i j below lt =
      let a : Rank = get_or sorted i no_rank in
      let b : Rank = get_or sorted j no_rank in
      before_some ts (place (get_or sorted i no_rank)) (place (get_or sorted j no_rank)) (places_differ i j below lt)
      (sym (rank_before (passage ts (place b)).priority (passage ts (place a)).priority (place b) (place a))
      ∙ ap (λ r. is_lt (rank_cmp r (rank (passage ts (place a)).priority (place a)))) (sym (all_ranks j no_rank lt).1)
      ∙ ap (λ r. is_lt (rank_cmp b r)) (sym (all_ranks i no_rank (omega arith)).1)
      ∙ sorted_far (λ x y. is_lt (rank_cmp x y)) (ranks_by rank_cmp_total (λ x. x)) sorted up i j no_rank (omega arith) lt)

  listed : (t : ℕ) → t < length ts → members (map place sorted) t ≡ true
  listed t lt =
      let r : Rank = rank (passage ts t).priority t in
      let found : Contains sorted (rank (passage ts t).priority t) =
      Contains-permutation ranks sorted (rank (passage ts t).priority t) moved (t, omega (arith, are.count), place_at t (rank (passage ts t).priority t) lt) in
      list_any_at (λ m. eqb m t) (map place sorted) found.0 0 (omega (arith, found.1, length-map sorted place))
      (eq-eqb (get_or (map place sorted) found.0 0) t
      (get_or-map place sorted found.0 r 0 found.1 ∙ ap place found.2 ∙ rank_place (passage ts t).priority t))

  pub ordered_ranks : IsByPriority ts (map place sorted)
  ordered_ranks = record {
    count = omega (arith, length-map sorted place, length_permutation ranks sorted moved, are.count);
    numbers = All-map (λ t. t < length ts) place sorted (λ k d lt. (all_ranks k d lt).0);
    complete = listed;
    ordered = λ i j d below lt.
        let within : j < length sorted = omega (arith, length-map sorted place) in
        subst (λ t. comes_before ts t (get_or (map place sorted) j d) ≡ true) (sym (get_or-map place sorted i no_rank d (omega arith)))
        (subst (λ u. comes_before ts (place (get_or sorted i no_rank)) u ≡ true) (sym (get_or-map place sorted j no_rank d within)) (in_order i j below within));
  }
