-- One leaf more of what an online change saves, and of what is given back.
use Rattle.std.proofs.Common.{ℕ, suc, ◌≡◌, ◌≢◌, ◌+◌, ◌<◌, ◌≤◌, Bool, true, false, ◌&&◌, ◌||◌, ◌==◌, cond, nat_lt, List, [], ◌∷◌, ◌++◌, length, map, drop, take, get_or, set, Option, Some, None, ⊎_elim, refl, sym, ◌∙◌, ap, arith, append_assoc, length-drop, zero-add}
use Rattle.std.specs.List.{list_any, zip}
use Rattle.std.specs.Option.{is_none}
use Rattle.std.proofs.lemmas.Bool.{and_from, and_parts, both_ways, cases_eq, eq-eqb, lt-ltb, ltb-true, ne_eqb, or_left, or_right}
use Rattle.std.proofs.lemmas.List.{drop-drop, drop_more, get_or-set_other, get_or-set_same, length-set, map_more, same_lists, take_all, take_more}
use Rattle.std.proofs.lemmas.List.Folds.{list_any-append}
use Rattle.std.proofs.lemmas.Slice.Zip.{get_or-zip}
use Rattle.st_values.specs.Types.{width_of}
use Rattle.st_values.specs.declared.elem.Elem.{Elem}
use Rattle.st_values.specs.declared.value.Value.{Value}
use Rattle.st_tree.specs.declared.leaf.Leaf.{Leaf}
use Rattle.st_memory.specs.Bytes.{read_bytes, value_bytes}
use Rattle.st_layout.specs.Layout.{leaf_at, no_leaf, no_value}
use Rattle.st_memory.specs.Memory.{value_at}
use Rattle.st_memory.specs.Moves.{HoldsValues, moved_force, moved_pair, moved_value, saved_bytes, unmoved_forced, unmoved_values}
use Rattle.st_layout.specs.Pairs.{number_at}
use Rattle.st_memory.proofs.GivenBack.{force_back, length-unmoved_forced, unmoved_force_at}
use Rattle.st_memory.proofs.Moving.{length-pairs}

-- the values of the leaves so far, and of one more
pub carried_more : (new : List Leaf) (sources : List (Option ℕ)) (values : List Value) (j : ℕ) (carried more : List Value) (value : Value) → length sources ≡ length new → j < length new
    → carried ≡ map (moved_pair sources values) (take j (zip new sources)) → value ≡ moved_value sources values (leaf_at new j) (number_at sources j) → more ≡ carried ++ value ∷ []
    → more ≡ map (moved_pair sources values) (take (j + 1) (zip new sources))
carried_more new sources values j carried more value count below so_far told pushed =
    let here = get_or-zip new sources j (no_leaf, None) below (omega (arith, count, below)) in
    let one : value ≡ moved_pair sources values (get_or (zip new sources) j (no_leaf, None)) = told ∙ ap (moved_pair sources values) (sym here) in
    let next = map_more (moved_pair sources values) (zip new sources) j (no_leaf, None) (omega (arith, length-pairs new sources count, below)) in
    pushed ∙ (ap (λ (front : List Value). front ++ value ∷ []) so_far ∙ (ap (λ (last : Value). map (moved_pair sources values) (take j (zip new sources)) ++ last ∷ []) one ∙ sym next))

pub carried_all : (new : List Leaf) (sources : List (Option ℕ)) (j : ℕ) → length sources ≡ length new → length new ≤ j → take j (zip new sources) ≡ zip new sources
carried_all new sources j count all = take_all j (zip new sources) (omega (arith, length-pairs new sources count, all))

-- the bytes of one leaf more, if it is dropped
pub bytes_more : (targets : List (Option ℕ)) (values : List Value) (i : ℕ) (all more whole : List ℕ) (dropped : Bool) → i < length targets → i < length values → is_none (number_at targets i) ≡ dropped
    → all ++ saved_bytes (drop i targets) (drop i values) ≡ whole → more ≡ cond dropped (all ++ value_bytes (value_at values i)) all
    → more ++ saved_bytes (drop (i + 1) targets) (drop (i + 1) values) ≡ whole
bytes_more targets values i all more whole dropped below within is before next = by (number_at targets i) refl dropped is next
  where
    rest : List ℕ
    rest = saved_bytes (drop (i + 1) targets) (drop (i + 1) values)

    by : (target : Option ℕ) → number_at targets i ≡ target → (dropped : Bool) → is_none target ≡ dropped → more ≡ cond dropped (all ++ value_bytes (value_at values i)) all → more ++ rest ≡ whole
    by None is true told next =
        let one : saved_bytes (drop i targets) (drop i values) ≡ value_bytes (value_at values i) ++ rest = rw (drop_more targets i None below, drop_more values i no_value within, is) refl in
        ap (λ (bytes : List ℕ). bytes ++ rest) next ∙ (append_assoc all (value_bytes (value_at values i)) rest ∙ (ap (λ (bytes : List ℕ). all ++ bytes) (sym one) ∙ before))
    by (Some j) is false told next =
        let one : saved_bytes (drop i targets) (drop i values) ≡ rest = rw (drop_more targets i None below, drop_more values i no_value within, is) refl in
        ap (λ (bytes : List ℕ). bytes ++ rest) next ∙ (ap (λ (bytes : List ℕ). all ++ bytes) (sym one) ∙ before)
    by None is false told next = cc
    by (Some j) is true told next = cc

-- ---- values that are given back

-- the values of the first i leaves are given back, and the bytes of the others begin at `start`
pub record IsReturned (old : List Leaf) (targets : List (Option ℕ)) (values : List Value) (bytes : List ℕ) (i start : ℕ) (returned : List Value) : Type 0 where
  pub within : start ≤ length bytes
  pub holds : HoldsValues (drop i old) (drop i targets) (drop start bytes)
  pub before : returned ++ unmoved_values values (drop i old) (drop i targets) (drop start bytes) ≡ unmoved_values values old targets bytes

module _ (old : List Leaf) (targets : List (Option ℕ)) (values : List Value) (bytes : List ℕ) (i start : ℕ) (returned : List Value) (below : i < length old) (within : i < length targets) (so_far : IsReturned old targets values bytes i start returned) where
  -- one more, of a leaf that was kept
  pub returned_kept : (next j : ℕ) (value : Value) (more : List Value) → number_at targets i ≡ Some j → next ≡ start → value ≡ value_at values j → more ≡ returned ++ value ∷ []
      → IsReturned old targets values bytes (i + 1) next more
  returned_kept next j value more is same told pushed =
      let first : drop i old ≡ leaf_at old i ∷ drop (i + 1) old = drop_more old i no_leaf below in
      let target : drop i targets ≡ Some j ∷ drop (i + 1) targets = drop_more targets i None within ∙ ap (λ (t : Option ℕ). t ∷ drop (i + 1) targets) is in
      let holds : HoldsValues (drop (i + 1) old) (drop (i + 1) targets) (drop start bytes) = rw (first, target) at so_far.holds in
      let rest : List Value = unmoved_values values (drop (i + 1) old) (drop (i + 1) targets) (drop start bytes) in
      let one : unmoved_values values (drop i old) (drop i targets) (drop start bytes) ≡ value_at values j ∷ rest = rw (first, target) refl in
      record {
        within = omega (arith, same, so_far.within);
        holds = rw same holds;
        before = rw (same, pushed, told) (append_assoc returned (value_at values j ∷ []) rest ∙ (ap (λ (them : List Value). returned ++ them) (sym one) ∙ so_far.before));
      }

  -- one more, of a leaf that was dropped
  pub returned_dropped : (next width : ℕ) (elem : Elem) (value : Value) (more : List Value) → number_at targets i ≡ None → elem ≡ (leaf_at old i).elem → width ≡ width_of elem → next ≡ start + width
      → value ≡ read_bytes elem (drop start bytes) → more ≡ returned ++ value ∷ [] → IsReturned old targets values bytes (i + 1) next more
  returned_dropped next width elem value more is typed wide moved told pushed =
      let leaf : Leaf = leaf_at old i in
      let first : drop i old ≡ leaf ∷ drop (i + 1) old = drop_more old i no_leaf below in
      let target : drop i targets ≡ None ∷ drop (i + 1) targets = drop_more targets i None within ∙ ap (λ (t : Option ℕ). t ∷ drop (i + 1) targets) is in
      let all = rw (first, target) at so_far.holds in
      let at_next : next ≡ start + width_of leaf.elem = moved ∙ ap (λ (n : ℕ). start + n) (wide ∙ ap width_of typed) in
      let left : drop (width_of leaf.elem) (drop start bytes) ≡ drop next bytes = drop-drop (width_of leaf.elem) start bytes ∙ ap (λ (n : ℕ). drop n bytes) (sym at_next) in
      let rest : List Value = unmoved_values values (drop (i + 1) old) (drop (i + 1) targets) (drop next bytes) in
      let one : unmoved_values values (drop i old) (drop i targets) (drop start bytes) ≡ read_bytes leaf.elem (drop start bytes) ∷ rest =
      rw (first, target) (ap (λ (them : List ℕ). read_bytes leaf.elem (drop start bytes) ∷ unmoved_values values (drop (i + 1) old) (drop (i + 1) targets) them) left) in
      let here : value ≡ read_bytes leaf.elem (drop start bytes) = told ∙ ap (λ (e : Elem). read_bytes e (drop start bytes)) typed in
      record {
        within = omega (arith, at_next, all.0, length-drop start bytes, so_far.within);
        holds = rw left at all.2;
        before = rw (pushed, here) (append_assoc returned (read_bytes leaf.elem (drop start bytes) ∷ []) rest ∙ (ap (λ (them : List Value). returned ++ them) (sym one) ∙ so_far.before));
      }

-- ---- forces that are given back

-- before any number is read, kept leaves alone are forced
pub forces_none : (forced : List Bool) (i : ℕ) (targets : List (Option ℕ)) → unmoved_forced forced i targets [] ≡ map (moved_force forced) targets
forces_none forced i [] = refl
forces_none forced i (target ∷ targets) = ap (λ (rest : List Bool). moved_force forced target ∷ rest) (forces_none forced (suc i) targets)

or_false : (b : Bool) → (b || false) ≡ b
or_false true = refl
or_false false = refl

-- a number more changes nothing at another place, nor at one of a kept leaf
force_stays : (forced : List Bool) (numbers : List ℕ) (n i : ℕ) (target : Option ℕ) → (target ≡ None → n ≢ i) → force_back forced (numbers ++ n ∷ []) i target ≡ force_back forced numbers i target
force_stays forced numbers n i (Some j) apart = refl
force_stays forced numbers n i None apart =
    let other : (n == i) ≡ false = ne_eqb n i (apart refl) in
    list_any-append (λ number. number == i) numbers (n ∷ [])
    ∙ (ap (λ (b : Bool). list_any (λ number. number == i) numbers || (b || false)) other ∙ or_false (list_any (λ number. number == i) numbers))

force_given : (forced : List Bool) (numbers : List ℕ) (n i : ℕ) (target : Option ℕ) → target ≡ None → n ≡ i → force_back forced (numbers ++ n ∷ []) i target ≡ true
force_given forced numbers n i target is same =
    ap (force_back forced (numbers ++ n ∷ []) i) is
    ∙ (list_any-append (λ number. number == i) numbers (n ∷ [])
    ∙ or_right (list_any (λ number. number == i) numbers) ((n == i) || false) (or_left (n == i) false (eq-eqb n i same)))

module _ (forced : List Bool) (targets : List (Option ℕ)) (numbers : List ℕ) (n : ℕ) where
  abbrev before : List Bool
  before = unmoved_forced forced 0 targets numbers

  abbrev after : List Bool
  after = unmoved_forced forced 0 targets (numbers ++ n ∷ [])

  at_after : (k : ℕ) (d : Bool) → k < length targets → get_or after k d ≡ force_back forced (numbers ++ n ∷ []) k (number_at targets k)
  at_after k d below = unmoved_force_at forced 0 k targets (numbers ++ n ∷ []) d below ∙ ap (λ (m : ℕ). force_back forced (numbers ++ n ∷ []) m (number_at targets k)) (zero-add k)

  at_before : (k : ℕ) (d : Bool) → k < length targets → get_or before k d ≡ force_back forced numbers k (number_at targets k)
  at_before k d below = unmoved_force_at forced 0 k targets numbers d below ∙ ap (λ (m : ℕ). force_back forced numbers m (number_at targets k)) (zero-add k)

  -- the number of a leaf that was dropped forces it
  force_more : n < length targets → number_at targets n ≡ None → set before n true ≡ after
  force_more below dropped =
      let long = length-unmoved_forced forced 0 targets numbers in
      let longer = length-unmoved_forced forced 0 targets (numbers ++ n ∷ []) in
      same_lists (set before n true) after (omega (arith, length-set before n true, long, longer)) (λ k d within.
      let inside : k < length targets = omega (arith, within, length-set before n true, long) in
      ⊎_elim (λ (same : k ≡ n).
      ap (λ (m : ℕ). get_or (set before n true) m d) same ∙ (get_or-set_same before n true d (omega (arith, long, below))
      ∙ sym (at_after k d inside ∙ force_given forced numbers n k (number_at targets k) (ap (number_at targets) same ∙ dropped) (sym same))))
      (λ (apart : k ≡ n → ⊥).
      get_or-set_other before n k true d apart ∙ (at_before k d inside
      ∙ sym (at_after k d inside ∙ force_stays forced numbers n k (number_at targets k) (λ _ same. apart (sym same)))))
      (cases_eq k n))

  -- any other number changes nothing
  force_same : (n < length targets → number_at targets n ≡ None → ⊥) → before ≡ after
  force_same other =
      let long = length-unmoved_forced forced 0 targets numbers in
      let longer = length-unmoved_forced forced 0 targets (numbers ++ n ∷ []) in
      same_lists before after (omega (arith, long, longer)) (λ k d within.
      let inside : k < length targets = omega (arith, within, long) in
      at_before k d inside
      ∙ sym (at_after k d inside ∙ force_stays forced numbers n k (number_at targets k) (λ none same. other (omega (arith, same, inside)) (ap (number_at targets) same ∙ none))))

-- whether a number is that of a leaf that was dropped
abbrev pub is_dropped_leaf : List (Option ℕ) → ℕ → ℕ → Bool
is_dropped_leaf targets count n = nat_lt n count && is_none (number_at targets n)

none_is : (o : Option ℕ) → is_none o ≡ true → o ≡ None
none_is None is = refl
none_is (Some i) is = cc

-- the forces after one number more
pub forces_more : (forced : List Bool) (targets : List (Option ℕ)) (numbers : List ℕ) (i count : ℕ) (returned next : List Bool) (dropped : Bool) → i < length numbers → length targets ≡ count
    → dropped ≡ is_dropped_leaf targets count (get_or numbers i 0) → returned ≡ unmoved_forced forced 0 targets (take i numbers) → next ≡ cond dropped (set returned (get_or numbers i 0) true) returned
    → next ≡ unmoved_forced forced 0 targets (take (i + 1) numbers)
forces_more forced targets numbers i count returned next dropped below all told so_far step =
    by dropped refl step ∙ ap (unmoved_forced forced 0 targets) (sym (take_more numbers i 0 below))
  where
    by : (b : Bool) → dropped ≡ b → next ≡ cond b (set returned (get_or numbers i 0) true) returned → next ≡ unmoved_forced forced 0 targets (take i numbers ++ get_or numbers i 0 ∷ [])
    by true is next_is =
        let parts = and_parts (nat_lt (get_or numbers i 0) count) (is_none (number_at targets (get_or numbers i 0))) (sym told ∙ is) in
        let low : get_or numbers i 0 < count = ltb-true (get_or numbers i 0) count parts.0 in
        next_is ∙ (ap (λ (them : List Bool). set them (get_or numbers i 0) true) so_far
        ∙ force_more forced targets (take i numbers) (get_or numbers i 0) (omega (arith, low, all)) (none_is (number_at targets (get_or numbers i 0)) parts.1))
    by false is next_is =
        next_is ∙ (so_far ∙ force_same forced targets (take i numbers) (get_or numbers i 0) (λ low none.
        both_ways dropped is (told ∙ and_from (nat_lt (get_or numbers i 0) count) (is_none (number_at targets (get_or numbers i 0))) (lt-ltb (get_or numbers i 0) count (omega (arith, low, all))) (ap is_none none))))
