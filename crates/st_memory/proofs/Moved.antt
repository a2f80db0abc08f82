-- What moves as it is: the values of leaves that follow one another.
use Rattle.std.proofs.Common.{ℕ, zero, suc, ◌≡◌, ◌+◌, ◌-◌, ◌<◌, ◌≤◌, List, [], ◌∷◌, ◌++◌, length, map, take, drop, get_or, Option, Some, None, refl, sym, ◌∙◌, ap, arith, append_assoc}
use Rattle.std.specs.List.{zip}
use Rattle.std.proofs.Math.Seq.{take-add}
use Rattle.std.proofs.lemmas.List.{append-nil, drop_more, get_or-drop, get_or-map, get_or-take, get_or_default, length-drop, length-map, length-take, map-append, same_lists, take_more}
use Rattle.std.proofs.lemmas.Slice.Zip.{get_or-zip}
use Rattle.st_values.specs.declared.value.Value.{Value}
use Rattle.st_tree.specs.declared.leaf.Leaf.{Leaf}
use Rattle.st_memory.specs.Bytes.{value_bytes}
use Rattle.st_layout.specs.Layout.{leaf_at, no_leaf, no_value}
use Rattle.st_memory.specs.Memory.{value_at}
use Rattle.st_memory.specs.Moves.{moved_pair, moved_value, saved_bytes}
use Rattle.st_memory.specs.Packed.{encoded}
use Rattle.st_layout.specs.Pairs.{number_at}
use Rattle.st_memory.proofs.Encoded.{encoded-append, encoded_push}
use Rattle.st_memory.proofs.Moving.{length-pairs}
use Rattle.st_memory.proofs.Unpacked.{IsUnpacked, unpacked_kept}

-- ---- carried

module _ (new : List Leaf) (sources : List (Option ℕ)) (values : List Value) (count : length sources ≡ length new) where
  abbrev pairs : List (Leaf × Option ℕ)
  pairs = zip new sources

  -- new leaves that take the places of leaves that follow one another
  moved_run : (first to n : ℕ) → first + n ≤ length new → to + n ≤ length values → ((k : ℕ) → k < n → number_at sources (first + k) ≡ Some (to + k))
      → map (moved_pair sources values) (take n (drop first pairs)) ≡ take n (drop to values)
  moved_run first to n within below kept =
      let wide : length (map (moved_pair sources values) (take n (drop first pairs))) ≡ n =
      omega (arith, length-map (take n (drop first pairs)) (moved_pair sources values), length-take n (drop first pairs), length-drop first pairs, length-pairs new sources count, within) in
      let narrow : length (take n (drop to values)) ≡ n = omega (arith, length-take n (drop to values), length-drop to values, below) in
      same_lists (map (moved_pair sources values) (take n (drop first pairs))) (take n (drop to values)) (wide ∙ sym narrow) (λ k d less.
      let low : k < n = omega (arith, less, wide) in
      let inside : k < length (take n (drop first pairs)) = omega (arith, less, length-map (take n (drop first pairs)) (moved_pair sources values)) in
      let pair : get_or (take n (drop first pairs)) k (no_leaf, None) ≡ (leaf_at new (first + k), number_at sources (first + k)) =
      get_or-take n (drop first pairs) k (no_leaf, None) low ∙ (get_or-drop first pairs k (no_leaf, None) ∙ get_or-zip new sources (first + k) (no_leaf, None) (omega (arith, within)) (omega (arith, within, count))) in
      get_or-map (moved_pair sources values) (take n (drop first pairs)) k (no_leaf, None) d inside
      ∙ (ap (moved_pair sources values) pair
      ∙ (ap (moved_value sources values (leaf_at new (first + k))) (kept k low)
      ∙ sym (get_or-take n (drop to values) k d low ∙ (get_or-drop to values k d ∙ get_or_default values (to + k) d no_value (omega (arith, below)))))))

  -- the bytes of the leaves before a run, and of the run
  pub carried_run : (first to n : ℕ) (before after : List ℕ) → first + n ≤ length new → to + n ≤ length values → ((k : ℕ) → k < n → number_at sources (first + k) ≡ Some (to + k))
      → before ≡ encoded (map (moved_pair sources values) (take first pairs)) → after ≡ before ++ encoded (take n (drop to values)) → after ≡ encoded (map (moved_pair sources values) (take (first + n) pairs))
  carried_run first to n before after within below kept so_far pushed =
      let split : map (moved_pair sources values) (take (first + n) pairs) ≡ map (moved_pair sources values) (take first pairs) ++ take n (drop to values) =
      ap (map (moved_pair sources values)) (take-add first n pairs) ∙ (map-append (moved_pair sources values) (take first pairs) (take n (drop first pairs))
      ∙ ap (λ (them : List Value). map (moved_pair sources values) (take first pairs) ++ them) (moved_run first to n within below kept)) in
      pushed ∙ (ap (λ (them : List ℕ). them ++ encoded (take n (drop to values))) so_far
      ∙ sym (ap encoded split ∙ encoded-append (map (moved_pair sources values) (take first pairs)) (take n (drop to values))))

-- ---- saved

module _ (targets : List (Option ℕ)) (values : List Value) where
  -- dropped leaves that follow one another
  saved_gap : (n first : ℕ) → first + n ≤ length targets → first + n ≤ length values → ((k : ℕ) → k < n → number_at targets (first + k) ≡ None)
      → saved_bytes (drop first targets) (drop first values) ≡ encoded (take n (drop first values)) ++ saved_bytes (drop (first + n) targets) (drop (first + n) values)
  saved_gap zero first within below gap = let none : first + zero ≡ first = omega arith in rw none refl
  saved_gap (suc n) first within below gap =
      let here : first + zero ≡ first = omega arith in
      let next : first + suc n ≡ first + 1 + n = omega arith in
      let is : number_at targets first ≡ None = ap (number_at targets) (sym here) ∙ gap zero (omega arith) in
      let target : drop first targets ≡ None ∷ drop (first + 1) targets = drop_more targets first None (omega (arith, within)) ∙ ap (λ (t : Option ℕ). t ∷ drop (first + 1) targets) is in
      let value : drop first values ≡ value_at values first ∷ drop (first + 1) values = drop_more values first no_value (omega (arith, below)) in
      let rest : List ℕ = saved_bytes (drop (first + 1 + n) targets) (drop (first + 1 + n) values) in
      let others = saved_gap n (first + 1) (omega (arith, within)) (omega (arith, below)) (λ k low. ap (number_at targets) (moved k) ∙ gap (suc k) (omega (arith, low))) in
      rw (target, value, next) (ap (λ (them : List ℕ). value_bytes (value_at values first) ++ them) others ∙ sym (append_assoc (value_bytes (value_at values first)) (encoded (take n (drop (first + 1) values))) rest))
    where
      moved : (k : ℕ) → first + 1 + k ≡ first + suc k
      moved k = omega arith

  -- kept leaves that follow one another
  saved_run : (n first to : ℕ) → first + n ≤ length targets → first + n ≤ length values → ((k : ℕ) → k < n → number_at targets (first + k) ≡ Some (to + k))
      → saved_bytes (drop first targets) (drop first values) ≡ saved_bytes (drop (first + n) targets) (drop (first + n) values)
  saved_run zero first to within below kept = let none : first + zero ≡ first = omega arith in rw none refl
  saved_run (suc n) first to within below kept =
      let here : first + zero ≡ first = omega arith in
      let next : first + suc n ≡ first + 1 + n = omega arith in
      let is : number_at targets first ≡ Some (to + zero) = ap (number_at targets) (sym here) ∙ kept zero (omega arith) in
      let target : drop first targets ≡ Some (to + zero) ∷ drop (first + 1) targets = drop_more targets first None (omega (arith, within)) ∙ ap (λ (t : Option ℕ). t ∷ drop (first + 1) targets) is in
      let value : drop first values ≡ value_at values first ∷ drop (first + 1) values = drop_more values first no_value (omega (arith, below)) in
      rw (target, value, next) (saved_run n (first + 1) (to + 1) (omega (arith, within)) (omega (arith, below)) (λ k low. ap (number_at targets) (moved k) ∙ (kept (suc k) (omega (arith, low)) ∙ ap (λ (m : ℕ). Some m) (sym (moved_to k)))))
    where
      moved : (k : ℕ) → first + 1 + k ≡ first + suc k
      moved k = omega arith

      moved_to : (k : ℕ) → to + 1 + k ≡ to + suc k
      moved_to k = omega arith

  -- the bytes so far, after a gap and the run behind it
  pub dropped_more : (place first to n : ℕ) (before after whole : List ℕ) → place ≤ first → first + n ≤ length targets → first + n ≤ length values
      → ((i : ℕ) → place ≤ i → i < first → number_at targets i ≡ None) → ((k : ℕ) → k < n → number_at targets (first + k) ≡ Some (to + k))
      → before ++ saved_bytes (drop place targets) (drop place values) ≡ whole → after ≡ before ++ encoded (take (first - place) (drop place values))
      → after ++ saved_bytes (drop (first + n) targets) (drop (first + n) values) ≡ whole
  dropped_more place first to n before after whole order within below gap kept so_far pushed =
      let end : place + (first - place) ≡ first = omega arith in
      let passed = rw end at (saved_gap (first - place) place (omega (arith, order, within)) (omega (arith, order, below)) (λ k low. gap (place + k) (omega arith) (omega (arith, low, order)))) in
      let on = saved_run n first to within below kept in
      ap (λ (them : List ℕ). them ++ saved_bytes (drop (first + n) targets) (drop (first + n) values)) pushed
      ∙ (append_assoc before (encoded (take (first - place) (drop place values))) (saved_bytes (drop (first + n) targets) (drop (first + n) values))
      ∙ (ap (λ (them : List ℕ). before ++ (encoded (take (first - place) (drop place values)) ++ them)) (sym on)
      ∙ (ap (λ (them : List ℕ). before ++ them) (sym passed) ∙ so_far)))

-- ---- given back

module _ (old : List Leaf) (targets : List (Option ℕ)) (values : List Value) (saved : List ℕ) (count : length targets ≡ length old) where
  -- old leaves that were kept and follow one another
  pub unpacked_run : (n first to start : ℕ) (bytes : List ℕ) → first + n ≤ length old → to + n ≤ length values → ((k : ℕ) → k < n → number_at targets (first + k) ≡ Some (to + k))
      → IsUnpacked old targets values saved first start bytes → IsUnpacked old targets values saved (first + n) start (bytes ++ encoded (take n (drop to values)))
  unpacked_run zero first to start bytes within below kept so_far =
      let none : first + zero ≡ first = omega arith in
      rw (none, append-nil bytes) so_far
  unpacked_run (suc n) first to start bytes within below kept so_far =
      let next : first + suc n ≡ first + n + 1 = omega arith in
      let one : suc n ≡ n + 1 = omega arith in
      let before = unpacked_run n first to start bytes (omega (arith, within)) (omega (arith, below)) (λ k low. kept k (omega (arith, low))) so_far in
      let last : get_or (drop to values) n no_value ≡ value_at values (to + n) = get_or-drop to values n no_value in
      let run : take (suc n) (drop to values) ≡ take n (drop to values) ++ value_at values (to + n) ∷ [] =
      ap (λ (m : ℕ). take m (drop to values)) one ∙ (take_more (drop to values) n no_value (omega (arith, length-drop to values, below)) ∙ ap (λ (v : Value). take n (drop to values) ++ v ∷ []) last) in
      let pushed : bytes ++ encoded (take (suc n) (drop to values)) ≡ (bytes ++ encoded (take n (drop to values))) ++ value_bytes (value_at values (to + n)) =
      ap (λ (them : List Value). bytes ++ encoded them) run
      ∙ (ap (λ (them : List ℕ). bytes ++ them) (encoded_push (take n (drop to values)) (value_at values (to + n)))
      ∙ sym (append_assoc bytes (encoded (take n (drop to values))) (value_bytes (value_at values (to + n))))) in
      rw next (unpacked_kept old targets values saved (first + n) start (bytes ++ encoded (take n (drop to values))) (omega (arith, within)) (omega (arith, within, count)) before
      start (to + n) (bytes ++ encoded (take (suc n) (drop to values))) (kept n (omega arith)) refl pushed)
