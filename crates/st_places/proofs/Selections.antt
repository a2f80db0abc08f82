-- What is selected in tables.
use Rattle.std.specs.Borrow.{Bor}
use Rattle.std.proofs.Common.{◌≡◌, ℕ, zero, suc, ◌*◌, ◌-◌, ◌<◌, ◌≤◌, true, false, List, [], ◌∷◌, ◌++◌, length, take, Option, Some, None, IfSome, refl, ap, sym, ◌∙◌, subst, arith, ◌⊎◌, inl, inr}
use Rattle.std.specs.Prelude.{ℤ}
use Rattle.std.specs.List.{All, Contains, slice_get}
use Rattle.std.proofs.Math.Nat.{le-mul_of_pos_right, mul_assoc, mul_comm}
use Rattle.std.proofs.lemmas.Bool.{cases_lt}
use Rattle.std.proofs.lemmas.List.{length-map, take_all}
use Rattle.std.proofs.lemmas.List.Elements.{All-contains, All-head, All-tail}
use Rattle.std.proofs.lemmas.Option.{same_Some}
use Rattle.st_references.specs.Graphs.{IsOrder}
use Rattle.st_references.proofs.Contents.{order_len}
use Rattle.st_references.specs.References.{graph_of, references}
use Rattle.st_check.proofs.Names.{past_unknown}
use Rattle.st_tree.specs.declared.tree.declaration.Subrange.{Subrange}
use Rattle.st_types.specs.Compositions.{Composition, unknown, composition_within}
use Rattle.st_types.specs.Names.{Named, unit_at, units_of}
use Rattle.st_types.specs.Types.{type_at}
use Rattle.st_types.specs.declared.base.Base.TheVariants as bases
use Rattle.st_types.specs.declared.standard.StandardBlock.{StandardBlock}
use Rattle.st_values.specs.declared.elem.Elem.{Elem}
use Rattle.st_leaves.specs.Bounds.{HasBounds, IsBounded}
use Rattle.st_tree.specs.Literals.{number_of}
use Rattle.st_leaves.specs.Places.{count, extent, extent_of}
use Rattle.st_leaves.specs.Selected.{element_of, selected_by, subscripts_of, value_type}
use Rattle.st_meaning.specs.Offsets.{HasSmallArrays, IsSmall, offset_of}
use Rattle.st_meaning.proofs.SmallArrays.{some_elements, some_numbers}
use Rattle.st_meaning.specs.Units.{unit_whole}
use Rattle.st_meaning.specs.Wholes.{block_of}
use Rattle.st_places.specs.Contents.{AreElementsOf, IsArrayOf, IsSelected, IsUnfolded}
use Rattle.st_places.specs.Dimensions.{AreLimited, dimensions_in}
use Rattle.st_places.specs.Members.{AreUnits, IsUnit}
use Rattle.st_places.specs.Parts.{IsNodeIn, IsNodeOf, TablesView, is_array, node_part, optional_whole, part_in, whole_in, whole_part}
use Rattle.st_places.specs.declared.node.Dimension.{Dimension}
use Rattle.st_places.specs.declared.node.Node.{Node}
use Rattle.st_places.specs.declared.node.Node.TheVariants as nodes
use Rattle.st_places.specs.declared.unit.UnitParts.{UnitParts}
use Rattle.st_places.proofs.Settled.{IsSettled, settled}

-- ---- the dimensions of an array that isn't too large

product_pos : (a b : ℕ) → 0 < a → 0 < b → 0 < a * b
product_pos a b h k = let more : a ≤ a * b = le-mul_of_pos_right {m = b} a k in omega (arith, h, more)

abbrev made : ℕ → ℕ → ℤ → Dimension
made last stride low = record { last = last; stride = stride; low = low }

same_dimension : (d : Dimension) (last stride : ℕ) (low : ℤ) → d.last ≡ last → d.stride ≡ stride → d.low ≡ low → d ≡ made last stride low
same_dimension d last stride low a b c = ap (λ x. made x d.stride d.low) a ∙ ap (λ x. made last x d.low) b ∙ ap (λ x. made last stride x) c

pub exact : (size : ℕ) (rs : List Subrange) (ds : List Dimension) → AreLimited size rs ds → All IsBounded rs → 0 < size → extent rs * size ≤ 65536 → ds ≡ dimensions_in rs size
exact size [] [] are all some few = refl
exact size [] (d ∷ ds) are all some few = absurd are
exact size (r ∷ rs) [] are all some few = absurd are
exact size (r ∷ rs) (d ∷ ds) are all some few =
    let bounded : IsBounded r = All-head IsBounded r rs all in
    let others : All IsBounded rs = All-tail IsBounded r rs all in
    let one : 0 < extent_of r = some_numbers r bounded in
    let behind : 0 < extent rs * size = product_pos (extent rs) size (some_elements rs others) some in
    let whole : extent_of r * (extent rs * size) ≤ 65536 = omega (arith, few, mul_assoc (extent_of r) (extent rs) size) in
    let left : extent_of r ≤ extent_of r * (extent rs * size) = le-mul_of_pos_right {m = extent rs * size} (extent_of r) behind in
    let right : extent rs * size ≤ (extent rs * size) * extent_of r = le-mul_of_pos_right {m = extent_of r} (extent rs * size) one in
    let right_few : extent rs * size ≤ 65536 = omega (arith, right, whole, mul_comm (extent rs * size) (extent_of r)) in
    let last : d.last ≡ extent_of r - 1 = omega (arith, are.0.last one, one, left, whole) in
    let stride : d.stride ≡ extent rs * size = omega (arith, are.0.stride, right_few) in
    let low : d.low ≡ number_of r.lower = are.0.low bounded.lower in
    ap (λ (x : Dimension). x ∷ ds) (same_dimension d (extent_of r - 1) (extent rs * size) (number_of r.lower) last stride low)
    ∙ ap (λ (xs : List Dimension). made (extent_of r - 1) (extent rs * size) (number_of r.lower) ∷ xs) (exact size rs ds are.1 others some right_few)

same_length : (size : ℕ) (rs : List Subrange) (ds : List Dimension) → AreLimited size rs ds → length ds ≡ length rs
same_length size [] [] are = refl
same_length size [] (d ∷ ds) are = absurd are
same_length size (r ∷ rs) [] are = absurd are
same_length size (r ∷ rs) (d ∷ ds) are = ap suc (same_length size rs ds are.1)

module _ (t : TablesView) (node : Node) where
  -- ---- by a name

  module _ (name : List ℕ) where
    pub offset_clause : (r : Option (ℕ × Node)) → IsSelected (units_of t.text) (node_part (units_of t.text) node) name r → IsSmall (part_in t node)
        → IfSome r (λ found. found.0 ≡ offset_of (part_in t node) name)
    unfolding part_in
    offset_clause None is small = tt
    offset_clause (Some found) is small = is.1.0 small.few

    pub part_clause : (r : Option (ℕ × Node)) → IsSelected (units_of t.text) (node_part (units_of t.text) node) name r
        → IfSome r (λ found. part_in t found.1 ≡ selected_by (part_in t node) name)
    unfolding part_in
    part_clause None is = tt
    part_clause (Some found) is = is.0

    pub node_clause : (r : Option (ℕ × Node)) → IsSelected (units_of t.text) (node_part (units_of t.text) node) name r → IfSome r (λ found. IsNodeOf t found.1)
    unfolding IsNodeOf
    node_clause None is = tt
    node_clause (Some found) is = is.1.1

    pub none_clause : (r : Option (ℕ × Node)) → IsSelected (units_of t.text) (node_part (units_of t.text) node) name r → r ≡ None → selected_by (part_in t node) name ≡ unknown
    unfolding part_in
    none_clause None is none = is
    none_clause (Some found) is none = absurd (cc)

  -- ---- by subscripts

  module _ (r : Option (Bor (List Dimension) × Node)) (are : AreElementsOf (units_of t.text) (node_part (units_of t.text) node) r) where
    pub array_clause : IfSome r (λ found. is_array (part_in t node) ≡ true)
    unfolding part_in
    array_clause = by r are
      where
        by : (q : Option (Bor (List Dimension) × Node)) → AreElementsOf (units_of t.text) (node_part (units_of t.text) node) q → IfSome q (λ found. is_array (node_part (units_of t.text) node) ≡ true)
        by None is = tt
        by (Some found) is = ap is_array is.0.is

    pub number_clause : IfSome r (λ found. length found.0.now ≡ length (subscripts_of (part_in t node)))
    unfolding part_in
    number_clause = by r are
      where
        by : (q : Option (Bor (List Dimension) × Node)) → AreElementsOf (units_of t.text) (node_part (units_of t.text) node) q
            → IfSome q (λ found. length found.0.now ≡ length (subscripts_of (node_part (units_of t.text) node)))
        by None is = tt
        by (Some found) is = same_length (count (node_part (units_of t.text) found.1)) is.0.ranges found.0.now is.0.limited ∙ sym (ap (λ c. length (subscripts_of c)) is.0.is)

    pub element_clause : IfSome r (λ found. part_in t found.1 ≡ element_of (part_in t node))
    unfolding part_in
    element_clause = by r are
      where
        by : (q : Option (Bor (List Dimension) × Node)) → AreElementsOf (units_of t.text) (node_part (units_of t.text) node) q
            → IfSome q (λ found. node_part (units_of t.text) found.1 ≡ element_of (node_part (units_of t.text) node))
        by None is = tt
        by (Some found) is = sym (ap element_of is.0.is)

    pub element_node_clause : IfSome r (λ found. IsNodeOf t found.1)
    unfolding IsNodeOf
    element_node_clause = by r are
      where
        by : (q : Option (Bor (List Dimension) × Node)) → AreElementsOf (units_of t.text) (node_part (units_of t.text) node) q → IfSome q (λ found. IsNodeIn (units_of t.text) found.1)
        by None is = tt
        by (Some found) is = is.1

    pub no_array_clause : r ≡ None → is_array (part_in t node) ≡ false
    unfolding part_in
    no_array_clause none = subst (AreElementsOf (units_of t.text) (node_part (units_of t.text) node)) none are

  of_array : (c element : Composition) (ds : List Dimension) → IsArrayOf c element ds → IsSmall c → 0 < count (element_of c) → ds ≡ dimensions_in (subscripts_of c) (count (element_of c))
  of_array c element ds is small some =
      let bounds = subst HasBounds is.is small.bounds in
      let arrays = subst HasSmallArrays is.is small.arrays in
      let here : 0 < count element = subst (λ x. 0 < count (element_of x)) is.is some in
      exact (count element) is.ranges ds is.limited bounds.0 here arrays.0 ∙ sym (ap (λ x. dimensions_in (subscripts_of x) (count (element_of x))) is.is)

  pub dimensions_clause : (r : Option (Bor (List Dimension) × Node)) → AreElementsOf (units_of t.text) (node_part (units_of t.text) node) r → IsSmall (part_in t node)
      → IfSome r (λ found. 0 < count (element_of (part_in t node)) → found.0.now ≡ dimensions_in (subscripts_of (part_in t node)) (count (element_of (part_in t node))))
  unfolding part_in
  dimensions_clause None is small = tt
  dimensions_clause (Some found) is small = of_array (node_part (units_of t.text) node) (node_part (units_of t.text) found.1) found.0.now is.0 small

-- ---- whole units

pub root_part : (t : TablesView) (unit : ℕ) → part_in t (nodes.Whole unit) ≡ (whole_in t unit).variables
unfolding part_in whole_in unit_whole
root_part t unit = by (unit_at (units_of t.text) unit)
  where
    by : (u : Option Named) → whole_part (units_of t.text) u ≡ (optional_whole (units_of t.text) u).variables
    by None = refl
    by (Some u) = refl

pub root_node : (t : TablesView) (unit : ℕ) → IsNodeOf t (nodes.Whole unit)
unfolding IsNodeOf
root_node t unit = tt

-- ---- all units

pub pushed : {X : Type 0} (all : List X) (p q : X) (i : ℕ) → slice_get (all ++ p ∷ []) i ≡ Some q → (slice_get all i ≡ Some q) ⊎ ((i ≡ length all) × (p ≡ q))
pushed [] p q zero is = inr (refl, same_Some p q is)
pushed [] p q (suc i) is = absurd (cc)
pushed (x ∷ all) p q zero is = inl is
pushed (x ∷ all) p q (suc i) is = next (pushed all p q i is)
  where
    next : (slice_get all i ≡ Some q) ⊎ ((i ≡ length all) × (p ≡ q)) → (slice_get all i ≡ Some q) ⊎ ((suc i ≡ suc (length all)) × (p ≡ q))
    next (inl is) = inl is
    next (inr is) = inr (ap suc is.0, is.1)

module _ (units : List Named) where
  pub units_more : (all : List UnitParts) (n : ℕ) (p : UnitParts) → length all ≡ n → AreUnits units all → IsUnit units n p → AreUnits units (all ++ p ∷ [])
  units_more all n p len are is i q at = by (pushed all p q i at)
    where
      by : (slice_get all i ≡ Some q) ⊎ ((i ≡ length all) × (p ≡ q)) → IsUnit units i q
      by (inl there) = are i q there
      by (inr last) = subst (λ x. IsUnit units i x) last.1 (subst (λ k. IsUnit units k p) (sym (last.0 ∙ len)) is)

  settled_unfolded : (placed : List ℕ) (i : ℕ) → length placed ≤ length units → IsSettled units placed (type_at units i) → IsUnfolded units (type_at units i)
  settled_unfolded placed i few is = sym (is (suc (suc (length units))) (omega (arith, few)))

  unknown_unfolded : IsUnfolded units bases.Unknown
  unfolding composition_within
  unknown_unfolded = refl

  pub all_unfolded : (order : List ℕ) → IsOrder (graph_of units) order → (i : ℕ) → IsUnfolded units (type_at units i)
  all_unfolded order ordered i = elim (cases_lt i (length units)) as (λ _. IsUnfolded units (type_at units i)) [
    | inl below ↦
        let whole : take (length order) order ≡ order = take_all (length order) order (omega arith) in
        settled_unfolded (take (length order) order) i (omega (arith, ap length whole, order_len units order ordered))
        (All-contains (λ k. IsSettled units (take (length order) order) (type_at units k)) (take (length order) order) i (settled units order ordered (length order) (omega arith))
        (subst (λ placed. Contains placed i) (sym whole) (ordered.all i (omega (arith, below, length-map units (λ u. references units u.declares))))))
    | inr past ↦ subst (IsUnfolded units) (sym (past_unknown units i past)) unknown_unfolded
  ]

-- ---- the type of a value, and the block of an instance

pub type_clause : (s t : TablesView) (node : Node) (r : Option Elem) → s ≡ t → r ≡ value_type (node_part (units_of s.text) node) → r ≡ value_type (part_in t node)
unfolding part_in
type_clause s t node r same is = is ∙ ap (λ (x : TablesView). value_type (node_part (units_of x.text) node)) same

pub block_clause : (s t : TablesView) (node : Node) (r : Option StandardBlock) → s ≡ t → r ≡ block_of (node_part (units_of s.text) node) → r ≡ block_of (part_in t node)
unfolding part_in
block_clause s t node r same is = is ∙ ap (λ (x : TablesView). block_of (node_part (units_of x.text) node)) same
