-- What gives an old content back, leaf by leaf, that it fits, and that it is the content before the change.
use Rattle.std.proofs.Common.{ℕ, zero, suc, ◌≡◌, ◌+◌, ◌<◌, Bool, true, false, ◌==◌, List, [], ◌∷◌, ◌++◌, length, drop, get_or, Option, Some, None, refl, sym, ◌∙◌, ap, subst, arith, length-append, zero-add}
use Rattle.std.specs.List.{list_any}
use Rattle.std.specs.Option.{option_map_or}
use Rattle.std.proofs.lemmas.Bool.{eq-eqb, ne_eqb}
use Rattle.std.proofs.lemmas.List.{drop_at, get_or_default, same_lists}
use Rattle.st_values.specs.Types.{width_of}
use Rattle.st_values.specs.declared.elem.Elem.{Elem}
use Rattle.st_values.specs.declared.elem.Elem.TheVariants as elems
use Rattle.st_values.specs.declared.value.Value.{Value}
use Rattle.st_tree.specs.declared.leaf.Leaf.{Leaf}
use Rattle.st_leaves.specs.Sound.{IsValueOf}
use Rattle.st_memory.specs.Bytes.{read_bytes, value_bytes}
use Rattle.st_layout.specs.Layout.{leaf_at}
use Rattle.st_memory.specs.Memory.{AreValues, Content, Fits, forced_at, value_at}
use Rattle.st_memory.specs.Moves.{HoldsValues, moved, moved_force, moved_value, saved, saved_bytes, saved_forced, unmoved, unmoved_forced, unmoved_values}
use Rattle.st_layout.specs.Pairs.{IsPairing, Pairs, number_at}
use Rattle.st_memory.specs.declared.saved.Saved.{Saved}
use Rattle.st_memory.proofs.Contents.{value_fits}
use Rattle.st_memory.proofs.Moving.{fits_alike, moved_force_at, moved_value_at}
use Rattle.st_layout.proofs.Paired.{pair_of_target}
use Rattle.st_memory.proofs.ValueBytes.{length-value_bytes, read_bytes-value_bytes}

-- ---- what is saved

-- the bytes of a value of a leaf, and what follows them
saved_value_back : (leaf : Leaf) (value : Value) (rest : List ℕ) → IsValueOf leaf value → read_bytes leaf.elem (value_bytes value ++ rest) ≡ value
saved_value_back leaf value rest fits = subst (λ (elem : Elem). read_bytes elem (value_bytes value ++ rest) ≡ value) fits.elem (read_bytes-value_bytes value rest fits.in_range)

pub width_of_saved : (leaf : Leaf) (value : Value) → IsValueOf leaf value → length (value_bytes value) ≡ width_of leaf.elem
width_of_saved leaf value fits = length-value_bytes value ∙ ap width_of fits.elem

saved_rest : (leaf : Leaf) (value : Value) (rest : List ℕ) → IsValueOf leaf value → drop (width_of leaf.elem) (value_bytes value ++ rest) ≡ rest
saved_rest leaf value rest fits = drop_at (value_bytes value) rest (width_of leaf.elem) (width_of_saved leaf value fits)

-- what is saved of values of the leaves' types holds such values
saved_holds : (leaves : List Leaf) (targets : List (Option ℕ)) (values : List Value) → length targets ≡ length leaves → AreValues leaves values → HoldsValues leaves targets (saved_bytes targets values)
saved_holds [] [] values count fit = refl
saved_holds [] (target ∷ targets) [] count fit = refl
saved_holds [] (target ∷ targets) (value ∷ values) count fit = absurd fit
saved_holds (leaf ∷ leaves) [] values count fit = refl
saved_holds (leaf ∷ leaves) (target ∷ targets) [] count fit = absurd fit
saved_holds (leaf ∷ leaves) (Some j ∷ targets) (value ∷ values) count fit = saved_holds leaves targets values (omega (arith, count)) fit.1
saved_holds (leaf ∷ leaves) (None ∷ targets) (value ∷ values) count fit =
    let more = saved_holds leaves targets values (omega (arith, count)) fit.1 in
    let back = saved_value_back leaf value (saved_bytes targets values) fit.0 in
    let left = saved_rest leaf value (saved_bytes targets values) fit.0 in (
      omega (arith, width_of_saved leaf value fit.0, length-append (value_bytes value) (saved_bytes targets values)),
      rw back fit.0.in_range,
      rw left more,
    )

-- no number below i is among those from i on
none_below : (i k : ℕ) (targets : List (Option ℕ)) (forced : List Bool) → k < i → list_any (λ number. number == k) (saved_forced i targets forced) ≡ false
none_below i k [] forced below = refl
none_below i k (target ∷ targets) [] below = refl
none_below i k (Some j ∷ targets) (on ∷ forced) below = none_below (suc i) k targets forced (omega (arith, below))
none_below i k (None ∷ targets) (false ∷ forced) below = none_below (suc i) k targets forced (omega (arith, below))
none_below i k (None ∷ targets) (true ∷ forced) below =
    let other : (i == k) ≡ false = ne_eqb i k (λ same. omega (arith, same, below)) in
    rw other (none_below (suc i) k targets forced (omega (arith, below)))

-- a dropped leaf's number is saved where the leaf is forced
pub saved_number : (i k : ℕ) (targets : List (Option ℕ)) (forced : List Bool) → length forced ≡ length targets → k < length targets → number_at targets k ≡ None
    → list_any (λ number. number == i + k) (saved_forced i targets forced) ≡ forced_at forced k
saved_number i k [] forced count below dropped = absurd (omega (arith, below))
saved_number i k (target ∷ targets) [] count below dropped = absurd (omega (arith, count))
saved_number i zero (Some j ∷ targets) (on ∷ forced) count below dropped = cc
saved_number i zero (None ∷ targets) (true ∷ forced) count below dropped = let same : (i == i + 0) ≡ true = eq-eqb i (i + 0) (omega arith) in rw same refl
saved_number i zero (None ∷ targets) (false ∷ forced) count below dropped = none_below (suc i) (i + 0) targets forced (omega arith)
saved_number i (suc k) (Some j ∷ targets) (on ∷ forced) count below dropped =
    ap (λ (n : ℕ). list_any (λ number. number == n) (saved_forced (suc i) targets forced)) (omega arith)
    ∙ saved_number (suc i) k targets forced (omega (arith, count)) (omega (arith, below)) dropped
saved_number i (suc k) (None ∷ targets) (false ∷ forced) count below dropped =
    ap (λ (n : ℕ). list_any (λ number. number == n) (saved_forced (suc i) targets forced)) (omega arith)
    ∙ saved_number (suc i) k targets forced (omega (arith, count)) (omega (arith, below)) dropped
saved_number i (suc k) (None ∷ targets) (true ∷ forced) count below dropped =
    let other : (i == i + suc k) ≡ false = ne_eqb i (i + suc k) (λ same. omega (arith, same)) in
    rw other (ap (λ (n : ℕ). list_any (λ number. number == n) (saved_forced (suc i) targets forced)) (omega arith)
    ∙ saved_number (suc i) k targets forced (omega (arith, count)) (omega (arith, below)) dropped)

-- ---- what gives the old content back

-- whether an old leaf is forced again
abbrev pub force_back : List Bool → List ℕ → ℕ → Option ℕ → Bool
force_back forced numbers i target = option_map_or (forced_at forced) target (list_any (λ number. number == i) numbers)

pub length-unmoved_forced : (forced : List Bool) (i : ℕ) (targets : List (Option ℕ)) (numbers : List ℕ) → length (unmoved_forced forced i targets numbers) ≡ length targets
length-unmoved_forced forced i [] numbers = refl
length-unmoved_forced forced i (target ∷ targets) numbers = ap suc (length-unmoved_forced forced (suc i) targets numbers)

pub unmoved_force_at : (forced : List Bool) (i k : ℕ) (targets : List (Option ℕ)) (numbers : List ℕ) (d : Bool) → k < length targets
    → get_or (unmoved_forced forced i targets numbers) k d ≡ force_back forced numbers (i + k) (number_at targets k)
unmoved_force_at forced i k [] numbers d below = absurd (omega (arith, below))
unmoved_force_at forced i zero (target ∷ targets) numbers d below = ap (λ (n : ℕ). force_back forced numbers n target) (omega arith)
unmoved_force_at forced i (suc k) (target ∷ targets) numbers d below =
    unmoved_force_at forced (suc i) k targets numbers d (omega (arith, below))
    ∙ ap (λ (n : ℕ). force_back forced numbers n (number_at targets k)) (omega arith)

read_elem : (elem : Elem) (bytes : List ℕ) → (read_bytes elem bytes).elem ≡ elem
unfolding read_bytes
read_elem elems.Bool bytes = refl
read_elem elems.Sint bytes = refl
read_elem elems.Int bytes = refl
read_elem elems.Dint bytes = refl
read_elem elems.Lint bytes = refl
read_elem elems.Usint bytes = refl
read_elem elems.Uint bytes = refl
read_elem elems.Udint bytes = refl
read_elem elems.Ulint bytes = refl
read_elem elems.Byte bytes = refl
read_elem elems.Word bytes = refl
read_elem elems.Dword bytes = refl
read_elem elems.Lword bytes = refl
read_elem elems.Time bytes = refl

-- values that are given back are of the leaves' types
unmoved_values_fit : (values : List Value) (leaves : List Leaf) (targets : List (Option ℕ)) (bytes : List ℕ) → length targets ≡ length leaves → HoldsValues leaves targets bytes
    → ((i j : ℕ) → number_at targets i ≡ Some j → IsValueOf (leaf_at leaves i) (value_at values j)) → AreValues leaves (unmoved_values values leaves targets bytes)
unmoved_values_fit values [] targets bytes count holds kept = tt
unmoved_values_fit values (leaf ∷ leaves) [] bytes count holds kept = absurd (omega (arith, count))
unmoved_values_fit values (leaf ∷ leaves) (Some j ∷ targets) bytes count holds kept =
    (kept 0 j refl, unmoved_values_fit values leaves targets bytes (omega (arith, count)) holds (λ i j is. kept (suc i) j is))
unmoved_values_fit values (leaf ∷ leaves) (None ∷ targets) bytes count holds kept = (
  record { elem = read_elem leaf.elem bytes; in_range = holds.1 },
  unmoved_values_fit values leaves targets (drop (width_of leaf.elem) bytes) (omega (arith, count)) holds.2 (λ i j is. kept (suc i) j is),
)

length-unmoved_values : (values : List Value) (leaves : List Leaf) (targets : List (Option ℕ)) (bytes : List ℕ) → length targets ≡ length leaves → length (unmoved_values values leaves targets bytes) ≡ length leaves
length-unmoved_values values [] targets bytes count = refl
length-unmoved_values values (leaf ∷ leaves) [] bytes count = absurd (omega (arith, count))
length-unmoved_values values (leaf ∷ leaves) (Some j ∷ targets) bytes count = ap suc (length-unmoved_values values leaves targets bytes (omega (arith, count)))
length-unmoved_values values (leaf ∷ leaves) (None ∷ targets) bytes count = ap suc (length-unmoved_values values leaves targets (drop (width_of leaf.elem) bytes) (omega (arith, count)))

-- values are given back, where those of kept leaves stand at their targets
values_back : (values : List Value) (leaves : List Leaf) (targets : List (Option ℕ)) (before : List Value) → length targets ≡ length leaves → AreValues leaves before
    → ((i j : ℕ) → number_at targets i ≡ Some j → value_at values j ≡ value_at before i) → unmoved_values values leaves targets (saved_bytes targets before) ≡ before
values_back values [] targets [] count fit kept = refl
values_back values [] targets (value ∷ before) count fit kept = absurd fit
values_back values (leaf ∷ leaves) [] before count fit kept = absurd (omega (arith, count))
values_back values (leaf ∷ leaves) (target ∷ targets) [] count fit kept = absurd fit
values_back values (leaf ∷ leaves) (Some j ∷ targets) (value ∷ before) count fit kept =
    let more = values_back values leaves targets before (omega (arith, count)) fit.1 (λ i j is. kept (suc i) j is) in
    let here : value_at values j ≡ value = kept 0 j refl in
    cc
values_back values (leaf ∷ leaves) (None ∷ targets) (value ∷ before) count fit kept =
    let more = values_back values leaves targets before (omega (arith, count)) fit.1 (λ i j is. kept (suc i) j is) in
    let here = saved_value_back leaf value (saved_bytes targets before) fit.0 in
    let left = saved_rest leaf value (saved_bytes targets before) fit.0 in
    rw (here, left, more) refl

module _ (old new : List Leaf) (pairs : Pairs) (pairing : IsPairing old new pairs) where
  -- what gives the old content back fits the old layout
  pub unmoved_fits : (content : Content) (dropped : Saved) → Fits new content → HoldsValues old pairs.targets dropped.bytes → Fits old (unmoved old pairs content dropped)
  unfolding unmoved
  unmoved_fits content dropped fits holds = record {
    types = unmoved_values_fit content.values old pairs.targets dropped.bytes pairing.targets holds (λ i j is.
        let pair = pair_of_target old new pairs pairing i j is in
        fits_alike (leaf_at new j) (leaf_at old i) (value_at content.values j) (sym pair.elem) (value_fits new content.values j fits.types pair.new_below));
    values = length-unmoved_values content.values old pairs.targets dropped.bytes pairing.targets;
    forced = length-unmoved_forced content.forced 0 pairs.targets dropped.forced ∙ pairing.targets;
  }

  module _ (content : Content) (fits : Fits old content) where
    pub saved_content_holds : HoldsValues old pairs.targets (saved pairs content).bytes
    unfolding saved
    saved_content_holds = saved_holds old pairs.targets content.values pairing.targets fits.types

    -- a leaf that is kept has its value where it went
    kept_value : (i j : ℕ) → number_at pairs.targets i ≡ Some j → value_at (moved new pairs content).values j ≡ value_at content.values i
    kept_value i j is =
        let pair = pair_of_target old new pairs pairing i j is in
        moved_value_at new pairs content pairing.sources j pair.new_below ∙ ap (moved_value pairs.sources content.values (leaf_at new j)) pair.source

    kept_force : (i j : ℕ) → number_at pairs.targets i ≡ Some j → forced_at (moved new pairs content).forced j ≡ forced_at content.forced i
    kept_force i j is =
        let pair = pair_of_target old new pairs pairing i j is in
        moved_force_at new pairs content pairing.sources j pair.new_below ∙ ap (moved_force content.forced) pair.source

    force_again : (k : ℕ) (target : Option ℕ) → number_at pairs.targets k ≡ target → k < length pairs.targets
        → force_back (moved new pairs content).forced (saved_forced 0 pairs.targets content.forced) k target ≡ forced_at content.forced k
    force_again k (Some j) is below = kept_force k j is
    force_again k None is below =
        ap (λ (n : ℕ). list_any (λ number. number == n) (saved_forced 0 pairs.targets content.forced)) (sym (zero-add k))
        ∙ saved_number 0 k pairs.targets content.forced (omega (arith, fits.forced, pairing.targets)) below is

    forces_back : unmoved_forced (moved new pairs content).forced 0 pairs.targets (saved_forced 0 pairs.targets content.forced) ≡ content.forced
    forces_back =
        let forced : List Bool = (moved new pairs content).forced in
        let numbers : List ℕ = saved_forced 0 pairs.targets content.forced in
        let long : length (unmoved_forced forced 0 pairs.targets numbers) ≡ length pairs.targets = length-unmoved_forced forced 0 pairs.targets numbers in
        same_lists (unmoved_forced forced 0 pairs.targets numbers) content.forced (omega (arith, long, fits.forced, pairing.targets)) (λ k d below.
        let within : k < length pairs.targets = omega (arith, below, long) in
        unmoved_force_at forced 0 k pairs.targets numbers d within
        ∙ (ap (λ (n : ℕ). force_back forced numbers n (number_at pairs.targets k)) (zero-add k)
        ∙ (force_again k (number_at pairs.targets k) refl within
        ∙ get_or_default content.forced k false d (omega (arith, fits.forced, pairing.targets, within)))))

    -- the content before the change comes back
    pub unmoved-moved : unmoved old pairs (moved new pairs content) (saved pairs content) ≡ content
    unfolding unmoved saved
    unmoved-moved =
        let values = values_back (moved new pairs content).values old pairs.targets content.values pairing.targets fits.types kept_value in
        let numbers : List ℕ = saved_forced 0 pairs.targets content.forced in
        ap (λ (values : List Value). made values (unmoved_forced (moved new pairs content).forced 0 pairs.targets numbers)) values ∙ ap (made content.values) forces_back
      where
        made : List Value → List Bool → Content
        made values forced = record { values = values; forced = forced }
