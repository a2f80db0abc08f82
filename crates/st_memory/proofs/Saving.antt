-- What an online change saves, as lists of the dropped leaves.
use Rattle.std.proofs.Common.{ℕ, zero, suc, ◌≡◌, ◌+◌, ◌<◌, ◌≤◌, Bool, true, false, cond, List, [], ◌∷◌, length, Option, Some, None, refl, sym, ◌∙◌, ap, arith, zero-add, add-one}
use Rattle.std.specs.List.{All, AllPairs, filter, flat_map, range_with_len, sum_by}
use Rattle.std.specs.Option.{is_none}
use Rattle.std.proofs.lemmas.List.Concat.{length-flat_map}
use Rattle.std.proofs.lemmas.List.Elements.{All-cons, All-filter, All-head, All-nil, All-tail, All-weaker}
use Rattle.std.proofs.lemmas.List.FromFn.{get_or-range_with_len, length-range_with_len}
use Rattle.std.proofs.lemmas.List.Sums.{sum_by-cons}
use Rattle.st_values.specs.Types.{width_of}
use Rattle.st_values.specs.declared.value.Value.{Value}
use Rattle.st_memory.specs.Bytes.{value_bytes}
use Rattle.st_memory.specs.Laws.{SavedForcesAscend, SavesDroppedForces, SavesDroppedValues, SavesTheirWidths, dropped_leaves}
use Rattle.st_layout.specs.Layout.{leaf_at}
use Rattle.st_memory.specs.Memory.{forced_at, value_at}
use Rattle.st_memory.specs.Moves.{saved, saved_bytes, saved_forced}
use Rattle.st_layout.specs.Pairs.{Pairs, number_at}
use Rattle.st_memory.proofs.Contents.{value_fits}
use Rattle.st_memory.proofs.GivenBack.{width_of_saved}

-- the numbers from i on whose leaves are dropped, where `target` says what takes the place of each leaf
abbrev dropped_from : (ℕ → Option ℕ) → ℕ → ℕ → List ℕ
dropped_from target i count = filter (λ k. is_none (target k)) (range_with_len i count)

abbrev with_number : Bool → ℕ → List ℕ → List ℕ
with_number dropped i numbers = cond dropped (i ∷ numbers) numbers

-- one number more
first_dropped : (target : ℕ → Option ℕ) (i count : ℕ) (t : Option ℕ) → t ≡ target (i + 0) → dropped_from target i (suc count) ≡ with_number (is_none t) i (dropped_from target (suc i) count)
first_dropped target i count t is =
    ap (λ (next : ℕ). with_number (is_none (target i)) i (dropped_from target next count)) (add-one i)
    ∙ ap (λ (other : Option ℕ). with_number (is_none other) i (dropped_from target (suc i) count)) (ap target (omega arith) ∙ sym is)

later : (i k : ℕ) → i + suc k ≡ suc i + k
later i k = omega arith

module _ (target : ℕ → Option ℕ) where
  bytes_of_dropped : (value : ℕ → Value) (i : ℕ) (targets : List (Option ℕ)) (values : List Value) → length values ≡ length targets
      → ((k : ℕ) → number_at targets k ≡ target (i + k)) → ((k : ℕ) → value_at values k ≡ value (i + k))
      → saved_bytes targets values ≡ flat_map (λ k. value_bytes (value k)) (dropped_from target i (length targets))
  bytes_of_dropped value i [] values count is at = refl
  bytes_of_dropped value i (t ∷ targets) [] count is at = absurd (omega (arith, count))
  bytes_of_dropped value i (None ∷ targets) (v ∷ values) count is at =
      let more = bytes_of_dropped value (suc i) targets values (omega (arith, count)) (λ k. is (suc k) ∙ ap target (later i k)) (λ k. at (suc k) ∙ ap value (later i k)) in
      let here : v ≡ value i = at 0 ∙ ap value (omega arith) in
      rw (first_dropped target i (length targets) None (is 0), here, more) refl
  bytes_of_dropped value i (Some j ∷ targets) (v ∷ values) count is at =
      let more = bytes_of_dropped value (suc i) targets values (omega (arith, count)) (λ k. is (suc k) ∙ ap target (later i k)) (λ k. at (suc k) ∙ ap value (later i k)) in
      rw (first_dropped target i (length targets) (Some j) (is 0), more) refl

  numbers_of_dropped : (on : ℕ → Bool) (i : ℕ) (targets : List (Option ℕ)) (forced : List Bool) → length forced ≡ length targets
      → ((k : ℕ) → number_at targets k ≡ target (i + k)) → ((k : ℕ) → forced_at forced k ≡ on (i + k))
      → saved_forced i targets forced ≡ filter on (dropped_from target i (length targets))
  numbers_of_dropped on i [] forced count is at = refl
  numbers_of_dropped on i (t ∷ targets) [] count is at = absurd (omega (arith, count))
  numbers_of_dropped on i (None ∷ targets) (b ∷ forced) count is at =
      let more = numbers_of_dropped on (suc i) targets forced (omega (arith, count)) (λ k. is (suc k) ∙ ap target (later i k)) (λ k. at (suc k) ∙ ap on (later i k)) in
      let here : b ≡ on i = at 0 ∙ ap on (omega arith) in
      rw (first_dropped target i (length targets) None (is 0), here, more) refl
  numbers_of_dropped on i (Some j ∷ targets) (b ∷ forced) count is at =
      let more = numbers_of_dropped on (suc i) targets forced (omega (arith, count)) (λ k. is (suc k) ∙ ap target (later i k)) (λ k. at (suc k) ∙ ap on (later i k)) in
      rw (first_dropped target i (length targets) (Some j) (is 0), more) refl

pub saves_dropped_values : SavesDroppedValues
unfolding saved
saves_dropped_values old pairs content count fits =
    bytes_of_dropped (number_at pairs.targets) (value_at content.values) 0 pairs.targets content.values (omega (arith, fits.values, count))
    (λ k. ap (number_at pairs.targets) (sym (zero-add k))) (λ k. ap (value_at content.values) (sym (zero-add k)))

pub saves_dropped_forces : SavesDroppedForces
unfolding saved
saves_dropped_forces old pairs content count fits =
    numbers_of_dropped (number_at pairs.targets) (forced_at content.forced) 0 pairs.targets content.forced (omega (arith, fits.forced, count))
    (λ k. ap (number_at pairs.targets) (sym (zero-add k))) (λ k. ap (forced_at content.forced) (sym (zero-add k)))

-- sums of equal terms are equal
same_sums : (f g : ℕ → ℕ) (xs : List ℕ) → All (λ x. f x ≡ g x) xs → sum_by f xs ≡ sum_by g xs
same_sums f g [] each = refl
same_sums f g (x ∷ xs) each =
    let here : f x ≡ g x = All-head (λ x. f x ≡ g x) x xs each in
    let more = same_sums f g xs (All-tail (λ x. f x ≡ g x) x xs each) in
    sum_by-cons f x xs ∙ (omega (arith, here, more) ∙ sym (sum_by-cons g x xs))

-- each dropped leaf is one of the old ones
pub dropped_below : (pairs : Pairs) → All (λ i. i < length pairs.targets) (dropped_leaves pairs)
dropped_below pairs =
    let n : ℕ = length pairs.targets in
    All-filter (λ i. is_none (number_at pairs.targets i)) (λ i. i < n) (range_with_len 0 n) (λ k d below.
    let within : k < n = omega (arith, below, length-range_with_len 0 n) in
    omega (arith, get_or-range_with_len 0 n k d within, within))

pub saves_their_widths : SavesTheirWidths
saves_their_widths old pairs content count fits =
    ap length (saves_dropped_values old pairs content count fits)
    ∙ (length-flat_map (λ i. value_bytes (value_at content.values i)) (dropped_leaves pairs)
    ∙ same_sums (λ i. length (value_bytes (value_at content.values i))) (λ i. width_of (leaf_at old i).elem) (dropped_leaves pairs)
    (All-weaker (λ i. i < length pairs.targets) (λ i. length (value_bytes (value_at content.values i)) ≡ width_of (leaf_at old i).elem)
    (λ i below. width_of_saved (leaf_at old i) (value_at content.values i) (value_fits old content.values i fits.types (omega (arith, below, count))))
    (dropped_leaves pairs) (dropped_below pairs)))

-- a number before greater ones that ascend
ascending : (i : ℕ) (numbers : List ℕ) → All (λ k. i < k) numbers → AllPairs (λ j k. j < k) numbers → AllPairs (λ j k. j < k) (i ∷ numbers)
ascending i numbers above ascend a zero d before below = absurd (omega (arith, before))
ascending i numbers above ascend zero (suc b) d before below = above b d (omega (arith, below))
ascending i numbers above ascend (suc a) (suc b) d before below = ascend a b d (omega (arith, before)) (omega (arith, below))

not_below : (i : ℕ) (targets : List (Option ℕ)) (forced : List Bool) → All (λ k. i ≤ k) (saved_forced i targets forced)
not_below i [] forced = All-nil (λ k. i ≤ k)
not_below i (t ∷ targets) [] = All-nil (λ k. i ≤ k)
not_below i (Some j ∷ targets) (on ∷ forced) = All-weaker (λ k. suc i ≤ k) (λ k. i ≤ k) (λ k h. omega (arith, h)) (saved_forced (suc i) targets forced) (not_below (suc i) targets forced)
not_below i (None ∷ targets) (false ∷ forced) = All-weaker (λ k. suc i ≤ k) (λ k. i ≤ k) (λ k h. omega (arith, h)) (saved_forced (suc i) targets forced) (not_below (suc i) targets forced)
not_below i (None ∷ targets) (true ∷ forced) =
    All-cons (λ k. i ≤ k) i (saved_forced (suc i) targets forced) (omega arith)
    (All-weaker (λ k. suc i ≤ k) (λ k. i ≤ k) (λ k h. omega (arith, h)) (saved_forced (suc i) targets forced) (not_below (suc i) targets forced))

numbers_ascend : (i : ℕ) (targets : List (Option ℕ)) (forced : List Bool) → AllPairs (λ j k. j < k) (saved_forced i targets forced)
numbers_ascend i [] forced = λ a b d before below. absurd (omega (arith, below))
numbers_ascend i (t ∷ targets) [] = λ a b d before below. absurd (omega (arith, below))
numbers_ascend i (Some j ∷ targets) (on ∷ forced) = numbers_ascend (suc i) targets forced
numbers_ascend i (None ∷ targets) (false ∷ forced) = numbers_ascend (suc i) targets forced
numbers_ascend i (None ∷ targets) (true ∷ forced) =
    ascending i (saved_forced (suc i) targets forced)
    (All-weaker (λ k. suc i ≤ k) (λ k. i < k) (λ k h. omega (arith, h)) (saved_forced (suc i) targets forced) (not_below (suc i) targets forced))
    (numbers_ascend (suc i) targets forced)

pub saved_forces_ascend : SavedForcesAscend
unfolding saved
saved_forces_ascend pairs content = numbers_ascend 0 pairs.targets content.forced
