-- What a reset makes of a state.
use Rattle.std.proofs.Common.{ℕ, zero, suc, ◌≡◌, ◌+◌, ◌<◌, Bool, true, false, List, [], ◌∷◌, ◌++◌, length, map, set, drop, Option, Some, refl, sym, subst, ◌∙◌, ap, arith, append_assoc, zero-add}
use Rattle.std.specs.List.{range_with_len}
use Rattle.std.specs.Option.{option_map, option_map_or}
use Rattle.std.specs.Prelude.{if◌then◌else◌}
use Rattle.std.proofs.Math.Seq.{set-append_seam}
use Rattle.std.proofs.lemmas.List.{drop_more}
use Rattle.std.proofs.lemmas.List.FromFn.{get_or-map-range_with_len, length-map-range_with_len, map-range_with_len_more}
use Rattle.st_control.proofs.ScanStates.{kept_by_path}
use Rattle.st_control.specs.ScanLaws.{ResetsGiveInitialValues, ResetsKeepWhole, ResetsStartAnew}
use Rattle.st_control.specs.Laws.{is_forced_in, path_at}
use Rattle.st_control.specs.Scans.{reset_value, reset_values}
use Rattle.st_control.specs.States.{IsWhole, StateView, leaves_of}
use Rattle.st_memory.proofs.Contents.{value_fits}
use Rattle.st_layout.proofs.Paths.{number-own}
use Rattle.st_layout.specs.Layout.{IsValueAt, leaf_at, no_leaf, no_value, number_of}
use Rattle.st_memory.specs.Memory.{AreValues, forced_at, value_at}
use Rattle.st_leaves.specs.Sound.{IsSound}
use Rattle.st_tree.specs.declared.leaf.Leaf.{Leaf}
use Rattle.st_values.specs.declared.value.Value.{Value}

-- one value of its leaf's type for each
are_values : (leaves : List Leaf) (values : List Value) → length values ≡ length leaves → ((i : ℕ) → i < length leaves → IsValueAt leaves i (value_at values i)) → AreValues leaves values
are_values [] [] long each = tt
are_values [] (value ∷ values) long each = cc
are_values (leaf ∷ leaves) [] long each = cc
are_values (leaf ∷ leaves) (value ∷ values) long each =
    (each zero (omega arith), are_values leaves values (omega (arith, long)) (λ i below. each (suc i) (omega (arith, below))))

module _ (leaves : List Leaf) (forced : List Bool) (values : List Value) where
  -- the value of each leaf after a reset
  reset_at : (i : ℕ) → i < length leaves → value_at (reset_values leaves forced values) i ≡ reset_value leaves forced values i
  reset_at i below = get_or-map-range_with_len (reset_value leaves forced values) 0 (length leaves) i i no_value below (zero-add i)

  fits_at : (i : ℕ) → IsSound leaves → AreValues leaves values → i < length leaves → IsValueAt leaves i (reset_value leaves forced values i)
  fits_at i sound fit below =
      elim (forced_at forced i) as (λ b. IsValueAt leaves i (if b then value_at values i else (leaf_at leaves i).initial))
      [ true ↦ value_fits leaves values i fit below | false ↦ sound.initial i no_leaf below ]

  reset_fits : IsSound leaves → AreValues leaves values → AreValues leaves (reset_values leaves forced values)
  reset_fits sound fit =
      are_values leaves (reset_values leaves forced values) (length-map-range_with_len (reset_value leaves forced values) 0 (length leaves))
      (λ i below. subst (IsValueAt leaves i) (sym (reset_at i below)) (fits_at i sound fit below))

  -- a leaf that isn't forced has its initial value
  reset_free : (i : ℕ) → i < length leaves → forced_at forced i ≡ false → value_at (reset_values leaves forced values) i ≡ (leaf_at leaves i).initial
  reset_free i below free = reset_at i below ∙ ap (λ (b : Bool). if b then value_at values i else (leaf_at leaves i).initial) free

  -- a forced one keeps its value
  reset_kept : (i : ℕ) → i < length leaves → forced_at forced i ≡ true → value_at (reset_values leaves forced values) i ≡ value_at values i
  reset_kept i below is = reset_at i below ∙ ap (λ (b : Bool). if b then value_at values i else (leaf_at leaves i).initial) is

  -- the values so far: those of the first leaves are reset
  abbrev pub reset_front : ℕ → List Value
  reset_front i = map (reset_value leaves forced values) (range_with_len 0 i) ++ drop i values

  -- the values once one leaf more is reset
  abbrev pub one_reset : ℕ → List Value → List Value
  one_reset i all = if forced_at forced i then all else set all i (leaf_at leaves i).initial

  one_more : (i : ℕ) (value : Value) → i < length values
      → set (reset_front i) i value ≡ map (reset_value leaves forced values) (range_with_len 0 i) ++ value ∷ drop (i + 1) values
  one_more i value below =
      let front = map (reset_value leaves forced values) (range_with_len 0 i) in
      let here : length front ≡ i = length-map-range_with_len (reset_value leaves forced values) 0 i in
      ap (λ (rest : List Value). set (front ++ rest) i value) (drop_more values i no_value below)
      ∙ subst (λ (n : ℕ). set (front ++ value_at values i ∷ drop (i + 1) values) n value ≡ front ++ value ∷ drop (i + 1) values) here
      (set-append_seam front (value_at values i) (drop (i + 1) values) value)

  next_front : (i : ℕ) → reset_front (i + 1) ≡ map (reset_value leaves forced values) (range_with_len 0 i) ++ reset_value leaves forced values i ∷ drop (i + 1) values
  next_front i =
      let f = reset_value leaves forced values in
      ap (λ (front : List Value). front ++ drop (i + 1) values) (map-range_with_len_more f 0 i i (zero-add i))
      ∙ append_assoc (map f (range_with_len 0 i)) (f i ∷ []) (drop (i + 1) values)

  reset_more : (i : ℕ) → i < length values → one_reset i (reset_front i) ≡ reset_front (i + 1)
  reset_more i below = by (forced_at forced i) refl
    where
      f : ℕ → Value
      f = reset_value leaves forced values

      by : (b : Bool) → forced_at forced i ≡ b → (if b then reset_front i else set (reset_front i) i (leaf_at leaves i).initial) ≡ reset_front (i + 1)
      by true is =
          ap (λ (rest : List Value). map (reset_value leaves forced values) (range_with_len 0 i) ++ rest) (drop_more values i no_value below)
          ∙ (ap (λ (b : Bool). map (reset_value leaves forced values) (range_with_len 0 i) ++ (if b then value_at values i else (leaf_at leaves i).initial) ∷ drop (i + 1) values) (sym is)
          ∙ sym (next_front i))
      by false is =
          one_more i (leaf_at leaves i).initial below
          ∙ (ap (λ (b : Bool). map (reset_value leaves forced values) (range_with_len 0 i) ++ (if b then value_at values i else (leaf_at leaves i).initial) ∷ drop (i + 1) values) (sym is)
          ∙ sym (next_front i))

  -- a leaf that isn't forced is reset
  pub reset_one : (i : ℕ) (all new : List Value) (leaf : Leaf) → i < length values → all ≡ reset_front i → leaf ≡ leaf_at leaves i → forced_at forced i ≡ false
      → new ≡ set all i leaf.initial → new ≡ reset_front (i + 1)
  reset_one i all new leaf below so_far leaf_is free is =
      is
      ∙ (ap (λ (them : List Value). set them i leaf.initial) so_far
      ∙ (ap (λ (it : Leaf). set (reset_front i) i it.initial) leaf_is
      ∙ (ap (λ (b : Bool). if b then reset_front i else set (reset_front i) i (leaf_at leaves i).initial) (sym free) ∙ reset_more i below)))

  -- and a forced one stays
  pub reset_none : (i : ℕ) (all : List Value) → i < length values → all ≡ reset_front i → forced_at forced i ≡ true → all ≡ reset_front (i + 1)
  reset_none i all below so_far is =
      so_far ∙ (ap (λ (b : Bool). if b then reset_front i else set (reset_front i) i (leaf_at leaves i).initial) (sym is) ∙ reset_more i below)

-- what is forced is there
forced_below : (forced : List Bool) (i : ℕ) → forced_at forced i ≡ true → i < length forced
forced_below [] i is = cc
forced_below (first ∷ forced) zero is = omega arith
forced_below (first ∷ forced) (suc i) is = omega (arith, forced_below forced i is)

-- the same by path
module _ (s : StateView) (whole : IsWhole s) where
  abbrev after : List Value
  after = reset_values (leaves_of s) s.content.forced s.content.values

  initial_at : (i : ℕ) → i < length (leaves_of s) → is_forced_in s (path_at s i) ≡ false → option_map (value_at after) (number_of (leaves_of s) (path_at s i)) ≡ Some (leaf_at (leaves_of s) i).initial
  initial_at i below free =
      let own : number_of (leaves_of s) (path_at s i) ≡ Some i = number-own (leaves_of s) i whole.sound below in
      let here : forced_at s.content.forced i ≡ false = sym (ap (λ (number : Option ℕ). option_map_or (forced_at s.content.forced) number false) own) ∙ free in
      ap (option_map (value_at after)) own ∙ ap Some (reset_free (leaves_of s) s.content.forced s.content.values i below here)

  kept_at : (i : ℕ) → forced_at s.content.forced i ≡ true → value_at after i ≡ value_at s.content.values i
  kept_at i is =
      reset_kept (leaves_of s) s.content.forced s.content.values i (omega (arith, whole.fits.forced, forced_below s.content.forced i is)) is

pub resets_give_initial : ResetsGiveInitialValues
resets_give_initial s whole = record {
  program = refl;
  initial = initial_at s whole;
  kept = λ path is.
      kept_by_path s.content.forced s.content.values (reset_values (leaves_of s) s.content.forced s.content.values) (number_of (leaves_of s) path) (kept_at s whole) is;
  forces = refl;
  moment = refl;
  status = refl;
}

pub resets_keep_whole : ResetsKeepWhole
resets_keep_whole s whole = record {
  checked = whole.checked;
  sound = whole.sound;
  fits = record {
    types = reset_fits (leaves_of s) s.content.forced s.content.values whole.sound whole.fits.types;
    values = length-map-range_with_len (reset_value (leaves_of s) s.content.forced s.content.values) 0 (length (leaves_of s));
    forced = whole.fits.forced;
  };
  forces = whole.forces;
  moment = whole.moment;
}

pub resets_start_anew : ResetsStartAnew
resets_start_anew m = (refl, record { main = refl; limit = refl })
