-- What an online change makes of a content, leaf by leaf, and that it fits the new layout.
use Rattle.std.proofs.Common.{ℕ, suc, ◌≡◌, ◌<◌, Bool, true, false, if◌then◌else◌, pos, List, [], ◌∷◌, length, map, Option, Some, None, refl, ◌∙◌, ap, arith}
use Rattle.std.specs.List.{All, zip}
use Rattle.std.specs.Option.{is_some}
use Rattle.std.proofs.lemmas.List.{get_or-map, length-map}
use Rattle.std.proofs.lemmas.List.Elements.{All-head, All-tail}
use Rattle.std.proofs.lemmas.Slice.Zip.{get_or-zip, length-zip}
use Rattle.st_values.specs.Values.{in_range}
use Rattle.st_values.specs.declared.elem.Elem.{Elem}
use Rattle.st_values.specs.declared.elem.Elem.TheVariants as elems
use Rattle.st_values.specs.declared.value.Value.{Value}
use Rattle.st_tree.specs.declared.leaf.Leaf.{Leaf}
use Rattle.st_tree.specs.declared.leaf.Role.{Role}
use Rattle.st_tree.specs.declared.leaf.Role.TheVariants.{StepActive, StepPulsed}
use Rattle.st_leaves.specs.Sound.{IsValueOf}
use Rattle.st_layout.specs.Layout.{leaf_at, no_leaf, no_value}
use Rattle.st_memory.specs.Memory.{AreValues, Content, Fits, forced_at, value_at}
use Rattle.st_memory.specs.Moves.{fresh_value, moved, moved_force, moved_pair, moved_value, truth}
use Rattle.st_layout.specs.Pairs.{IsPairing, Pairs, number_at}
use Rattle.st_memory.proofs.Contents.{value_fits}
use Rattle.st_layout.proofs.Paired.{pair_of_source}

pub length-pairs : (new : List Leaf) (sources : List (Option ℕ)) → length sources ≡ length new → length (zip new sources) ≡ length new
length-pairs new sources count = omega (arith, length-zip new sources, count)

module _ (new : List Leaf) (pairs : Pairs) (content : Content) (count : length pairs.sources ≡ length new) where
  pub moved_value_at : (j : ℕ) → j < length new → value_at (moved new pairs content).values j ≡ moved_value pairs.sources content.values (leaf_at new j) (number_at pairs.sources j)
  unfolding moved
  moved_value_at j below =
      let within : j < length pairs.sources = omega (arith, count, below) in
      let paired : j < length (zip new pairs.sources) = omega (arith, length-pairs new pairs.sources count, below) in
      get_or-map (moved_pair pairs.sources content.values) (zip new pairs.sources) j (no_leaf, None) no_value paired
      ∙ ap (moved_pair pairs.sources content.values) (get_or-zip new pairs.sources j (no_leaf, None) below within)

  pub moved_force_at : (j : ℕ) → j < length new → forced_at (moved new pairs content).forced j ≡ moved_force content.forced (number_at pairs.sources j)
  unfolding moved
  moved_force_at j below = get_or-map (moved_force content.forced) pairs.sources j None false (omega (arith, count, below))

-- ---- values of the leaves' types

truth_in_range : (elem : Elem) → (in_range elem (pos 0) ≡ true) × (in_range elem (pos 1) ≡ true)
truth_in_range = elim [
  | elems.Bool ↦ (refl, refl)
  | elems.Sint ↦ (refl, refl)
  | elems.Int ↦ (refl, refl)
  | elems.Dint ↦ (refl, refl)
  | elems.Lint ↦ (refl, refl)
  | elems.Usint ↦ (refl, refl)
  | elems.Uint ↦ (refl, refl)
  | elems.Udint ↦ (refl, refl)
  | elems.Ulint ↦ (refl, refl)
  | elems.Byte ↦ (refl, refl)
  | elems.Word ↦ (refl, refl)
  | elems.Dword ↦ (refl, refl)
  | elems.Lword ↦ (refl, refl)
  | elems.Time ↦ (refl, refl)
]

truth_fits : (leaf : Leaf) (b : Bool) → IsValueOf leaf (truth leaf b)
truth_fits leaf true = record { elem = refl; in_range = (truth_in_range leaf.elem).1 }
truth_fits leaf false = record { elem = refl; in_range = (truth_in_range leaf.elem).0 }

fresh_fits : (sources : List (Option ℕ)) (values : List Value) (leaf : Leaf) (role : Role) → IsValueOf leaf leaf.initial → IsValueOf leaf (fresh_value sources values leaf role)
fresh_fits sources values leaf (StepActive begun) initial =
    elim (is_some (number_at sources begun)) as (λ kept. IsValueOf leaf (if kept then truth leaf false else leaf.initial)) [ true ↦ truth_fits leaf false | false ↦ initial ]
fresh_fits sources values leaf (StepPulsed active begun) initial = truth_fits leaf _
fresh_fits sources values leaf _ initial = initial

-- a value of the type of a leaf is one of another leaf of this type
pub fits_alike : (leaf other : Leaf) (value : Value) → leaf.elem ≡ other.elem → IsValueOf leaf value → IsValueOf other value
fits_alike leaf other value same fits = record { elem = fits.elem ∙ same; in_range = fits.in_range }

moved_fits : (sources : List (Option ℕ)) (values : List Value) (leaf : Leaf) (source : Option ℕ) → IsValueOf leaf leaf.initial → ((i : ℕ) → source ≡ Some i → IsValueOf leaf (value_at values i)) → IsValueOf leaf (moved_value sources values leaf source)
moved_fits sources values leaf None initial kept = fresh_fits sources values leaf leaf.role initial
moved_fits sources values leaf (Some i) initial kept = kept i refl

module _ (all : List (Option ℕ)) (values : List Value) where
  moved_values_fit : (leaves : List Leaf) (sources : List (Option ℕ)) → length sources ≡ length leaves → All (λ leaf. IsValueOf leaf leaf.initial) leaves
      → ((i j : ℕ) → number_at sources j ≡ Some i → IsValueOf (leaf_at leaves j) (value_at values i)) → AreValues leaves (map (moved_pair all values) (zip leaves sources))
  moved_values_fit [] sources count initial kept = tt
  moved_values_fit (leaf ∷ leaves) [] count initial kept = absurd (omega (arith, count))
  moved_values_fit (leaf ∷ leaves) (source ∷ sources) count initial kept = (
    moved_fits all values leaf source (All-head (λ leaf. IsValueOf leaf leaf.initial) leaf leaves initial) (λ i is. kept i 0 is),
    moved_values_fit leaves sources (omega (arith, count)) (All-tail (λ leaf. IsValueOf leaf leaf.initial) leaf leaves initial) (λ i j is. kept i (suc j) is),
  )

module _ (old new : List Leaf) (pairs : Pairs) (content : Content) (pairing : IsPairing old new pairs) where
  -- a new leaf that takes the place of an old one takes a value of its type
  pub kept_fits : AreValues old content.values → (i j : ℕ) → number_at pairs.sources j ≡ Some i → IsValueOf (leaf_at new j) (value_at content.values i)
  kept_fits fit i j is =
      let pair = pair_of_source old new pairs pairing i j is in
      fits_alike (leaf_at old i) (leaf_at new j) (value_at content.values i) pair.elem (value_fits old content.values i fit pair.old_below)

  -- what the change makes of a content fits the new layout
  pub moved_content_fits : All (λ leaf. IsValueOf leaf leaf.initial) new → Fits old content → Fits new (moved new pairs content)
  unfolding moved
  moved_content_fits initial fits = record {
    types = moved_values_fit pairs.sources content.values new pairs.sources pairing.sources initial (kept_fits fits.types);
    values = length-map (zip new pairs.sources) (moved_pair pairs.sources content.values) ∙ length-pairs new pairs.sources pairing.sources;
    forced = length-map pairs.sources (moved_force content.forced) ∙ pairing.sources;
  }

pub length-moved_forced : (new : List Leaf) (pairs : Pairs) (content : Content) → length (moved new pairs content).forced ≡ length pairs.sources
unfolding moved
length-moved_forced new pairs content = length-map pairs.sources (moved_force content.forced)
