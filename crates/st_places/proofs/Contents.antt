-- What names and subscripts select of parts, by the tables.
use Rattle.std.proofs.Common.{◌≡◌, ℕ, zero, suc, ◌≤◌, ◌<◌, List, [], ◌∷◌, length, Option, Some, None, refl, ap, sym, ◌∙◌, subst, arith, ◌⊎◌, inl, inr, false}
use Rattle.std.specs.List.{slice_get}
use Rattle.std.specs.Option.{option_and_then}
use Rattle.std.proofs.lemmas.Option.{same_Some, slice_get_within}
use Rattle.st_references.specs.References.{contained, type_names_in}
use Rattle.st_references.proofs.Lists.{all_of}
use Rattle.std.specs.List.{flat_map}
use Rattle.st_check.proofs.Names.{of_name}
use Rattle.st_tree.specs.declared.tree.constant.Constant.{Constant}
use Rattle.st_tree.specs.declared.tree.declaration.DeclaredType.TheVariants as declared_types
use Rattle.st_tree.specs.declared.tree.declaration.Initial.{Initial}
use Rattle.st_tree.specs.declared.tree.declaration.Initial.TheVariants as initials
use Rattle.st_tree.specs.declared.tree.declaration.Specification.{Specification}
use Rattle.st_tree.specs.declared.tree.declaration.Specification.TheVariants as specifications
use Rattle.st_tree.specs.declared.tree.declaration.Subrange.{Subrange}
use Rattle.st_tree.specs.declared.tree.unit.ChartElement.{ChartElement}
use Rattle.st_types.proofs.Units.{unit_at-past}
use Rattle.st_types.specs.Compositions.{Composition, unknown, elementary, array, composed, standard, Members as Parts, composition_within, elements_composition, members_by, optional_composition, started, unit_composition}
use Rattle.st_types.specs.Initials.{first_values, unit_element_initial, zero_of}
use Rattle.st_types.specs.Names.{Declares, Named, chart_in, unit_at}
use Rattle.st_types.specs.Names as names
use Rattle.st_types.specs.Types.{Elements, declared_elements, elements_in, optional_elements, shape_of, specified_elements, type_at}
use Rattle.st_types.specs.declared.base.Base.{Base}
use Rattle.st_types.specs.declared.base.Base.TheVariants as bases
use Rattle.st_types.specs.declared.standard.StandardBlock.{StandardBlock}
use Rattle.st_values.specs.declared.elem.Elem.{Elem}
use Rattle.st_leaves.specs.Places.{count}
use Rattle.st_leaves.specs.Selected.{element_of, selected_by, value_type}
use Rattle.st_leaves.proofs.Counted.{written_elem}
use Rattle.st_leaves.proofs.Started.{started_count}
use Rattle.st_meaning.specs.Offsets.{offset_of}
use Rattle.st_meaning.specs.Units.{unit_root}
use Rattle.st_meaning.specs.Wholes.{block_of}
use Rattle.st_places.specs.Contents.{AreOf, HasSameParts, IsArrayOf, IsContent, IsNoFunction, IsSelected, IsType, IsUnfolded, contents_of, elements_of, is_function_in}
use Rattle.st_places.specs.Dimensions.{AreLimited}
use Rattle.st_places.specs.Members.{AreElements}
use Rattle.st_places.specs.Parts.{array_part, inside, is_array, is_function, node_part, own_names, whole_part}
use Rattle.st_places.specs.declared.content.Content.{Content}
use Rattle.st_places.specs.declared.content.Content.TheVariants as contents
use Rattle.st_places.specs.declared.node.Dimension.{Dimension}
use Rattle.st_places.specs.declared.node.Node.{Node}
use Rattle.st_places.specs.declared.unit.ArrayParts.{ArrayParts}
use Rattle.st_places.specs.declared.unit.UnitParts.{UnitParts}
use Rattle.st_places.proofs.Blocks.{known_shape, known_type, no_function}
use Rattle.st_places.proofs.Entries.{of_specified}
use Rattle.st_places.proofs.Roots.{root_is}

-- ---- the same parts

pub same_parts : (c d : Composition) → c ≡ d → HasSameParts c d
same_parts c d is = record {
  selected = λ name. ap (λ x. selected_by x name) is;
  offset = λ name. ap (λ x. offset_of x name) is;
  count = ap count is;
  array = ap is_array is;
  type = ap value_type is;
  block = ap block_of is;
}

through_parts : (c d e : Composition) → HasSameParts c d → HasSameParts d e → HasSameParts c e
through_parts c d e one two = record {
  selected = λ name. one.selected name ∙ two.selected name;
  offset = λ name. one.offset name ∙ two.offset name;
  count = one.count ∙ two.count;
  array = one.array ∙ two.array;
  type = one.type ∙ two.type;
  block = one.block ∙ two.block;
}

composed_parts : (name other : List ℕ) (ms : Parts) (chart : List ChartElement) → HasSameParts (composed name ms chart) (composed other ms chart)
composed_parts name other ms chart = record { selected = λ n. refl; offset = λ n. refl; count = refl; array = refl; type = refl; block = refl }

started_parts : (initial : Option Initial) (c : Composition) → HasSameParts (started initial c) c
started_parts None c = same_parts c c refl
started_parts (Some (initials.Constant k)) unknown = same_parts unknown unknown refl
started_parts (Some (initials.Constant k)) (elementary v) =
    record { selected = λ n. refl; offset = λ n. refl; count = refl; array = refl; type = ap (λ (e : Elem). Some e) (written_elem v.elem k); block = refl }
started_parts (Some (initials.Constant k)) (array ranges firsts c) = same_parts (array ranges firsts c) (array ranges firsts c) refl
started_parts (Some (initials.Constant k)) (composed name ms chart) = same_parts (composed name ms chart) (composed name ms chart) refl
started_parts (Some (initials.Constant k)) (standard b) = same_parts (standard b) (standard b) refl
started_parts (Some (initials.Array position items)) unknown = same_parts unknown unknown refl
started_parts (Some (initials.Array position items)) (elementary v) = same_parts (elementary v) (elementary v) refl
started_parts (Some (initials.Array position items)) (array ranges firsts c) = record { selected = λ n. refl; offset = λ n. refl; count = refl; array = refl; type = refl; block = refl }
started_parts (Some (initials.Array position items)) (composed name ms chart) = same_parts (composed name ms chart) (composed name ms chart) refl
started_parts (Some (initials.Array position items)) (standard b) = same_parts (standard b) (standard b) refl

pub started_array : (initial : Option Initial) (ranges : List Subrange) (firsts : List (Option Constant)) (element : Composition) (ds : List Dimension)
    → AreLimited (count element) ranges ds → IsArrayOf (started initial (array ranges firsts element)) element ds
started_array None ranges firsts element ds limited = record { ranges = ranges; firsts = firsts; is = refl; limited = limited }
started_array (Some (initials.Constant k)) ranges firsts element ds limited = record { ranges = ranges; firsts = firsts; is = refl; limited = limited }
started_array (Some (initials.Array position items)) ranges firsts element ds limited = record { ranges = ranges; firsts = first_values items; is = refl; limited = limited }

-- what isn't there is past the end
pub past : {X : Type 0} (xs : List X) (k : ℕ) → slice_get xs k ≡ None → length xs ≤ k
past [] k e = omega arith
past (x ∷ xs) zero e = absurd (cc)
past (x ∷ xs) (suc k) e = omega (arith, past xs k e)

module _ (units : List Named) where
  pub started_content : (initial : Option Initial) (c : Composition) (content : Content) → IsContent units c content → IsContent units (started initial c) content
  started_content initial c contents.Unknown is = through_parts (started initial c) c unknown (started_parts initial c) is
  started_content initial c (contents.Value e) is = through_parts (started initial c) c (elementary (zero_of e)) (started_parts initial c) is
  started_content initial c (contents.Whole i) is = through_parts (started initial c) c (contents_of units (unit_at units i)) (started_parts initial c) is
  started_content initial c (contents.Block b) is = through_parts (started initial c) c (standard b) (started_parts initial c) is
  started_content initial c (contents.Array ds node) is =
      (subst (λ x. IsArrayOf (started initial x) (node_part units node) ds.now) (sym is.0.is) (started_array initial is.0.ranges is.0.firsts (node_part units node) ds.now is.0.limited), is.1)

  -- ---- wholes

  unit_parts : (name : List ℕ) (unit : Declares) → is_function unit ≡ false
      → HasSameParts (unit_composition units (inside units) name unit) (composed [] (members_by units (inside units) (own_names unit)) (chart_in unit))
  unit_parts name (names.type (declared_types.Derived specification initial)) is = composed_parts name [] (members_by units (inside units) []) []
  unit_parts name (names.type (declared_types.Structure position members)) is = composed_parts name [] (members_by units (inside units) (names.members_of members)) []
  unit_parts name (names.function h) is = absurd (cc)
  unit_parts name (names.block b) is = composed_parts name [] (members_by units (inside units) (names.variables_in (names.block b))) (chart_in (names.block b))
  unit_parts name (names.program p) is = composed_parts name [] (members_by units (inside units) (names.variables_in (names.program p))) (chart_in (names.program p))

  root_parts : (name : List ℕ) (unit : Declares) → HasSameParts (unit_root units name unit) (composed [] (members_by units (inside units) (own_names unit)) (chart_in unit))
  root_parts name unit =
      subst (λ c. HasSameParts c (composed [] (members_by units (inside units) (own_names unit)) (chart_in unit))) (sym (root_is units name unit))
      (composed_parts name [] (members_by units (inside units) (own_names unit)) (chart_in unit))

  pub whole_content : (u : Option Named) → HasSameParts (whole_part units u) (contents_of units u)
  whole_content None = same_parts unknown unknown refl
  whole_content (Some u) = root_parts _ u.declares

  optional_content : (u : Option Named) → is_function_in u ≡ false → HasSameParts (optional_composition units (inside units) u) (contents_of units u)
  optional_content None is = same_parts unknown unknown refl
  optional_content (Some u) is = unit_parts _ u.declares is

  -- ---- types

  pub unknown_content : (base : Base) → base ≡ bases.Unknown → HasSameParts (inside units base) unknown
  unfolding composition_within
  unknown_content base is = subst (λ b. HasSameParts (inside units b) unknown) (sym is) (same_parts unknown unknown refl)

  pub value_content : (base : Base) (e : Elem) → base ≡ bases.Elementary e → HasSameParts (inside units base) (elementary (zero_of e))
  unfolding composition_within
  value_content base e is = subst (λ b. HasSameParts (inside units b) (elementary (zero_of e))) (sym is) (same_parts (elementary (zero_of e)) (elementary (zero_of e)) refl)

  pub block_content : (base : Base) (b : StandardBlock) → base ≡ bases.Standard b → HasSameParts (inside units base) (standard b)
  unfolding composition_within
  block_content base b is = subst (λ x. HasSameParts (inside units x) (standard b)) (sym is) (same_parts (standard b) (standard b) refl)

  of_structure : (i : ℕ) → IsType units (bases.Structure i) → HasSameParts (inside units (bases.Structure i)) (contents_of units (unit_at units i))
  unfolding composition_within
  of_structure i is = subst (λ c. HasSameParts c (contents_of units (unit_at units i))) (sym is.unfolded) (optional_content (unit_at units i) is.no_function)

  of_block : (i : ℕ) → IsType units (bases.Block i) → HasSameParts (inside units (bases.Block i)) (contents_of units (unit_at units i))
  unfolding composition_within
  of_block i is = subst (λ c. HasSameParts c (contents_of units (unit_at units i))) (sym is.unfolded) (optional_content (unit_at units i) is.no_function)

  pub unit_content : (base : Base) (i : ℕ) → (base ≡ bases.Structure i) ⊎ (base ≡ bases.Block i) → IsType units base → HasSameParts (inside units base) (contents_of units (unit_at units i))
  unit_content base i (inl is) typed =
      subst (λ b. HasSameParts (inside units b) (contents_of units (unit_at units i))) (sym is) (of_structure i (subst (IsType units) is typed))
  unit_content base i (inr is) typed =
      subst (λ b. HasSameParts (inside units b) (contents_of units (unit_at units i))) (sym is) (of_block i (subst (IsType units) is typed))

  array_unfolded : (i : ℕ) → IsUnfolded units (bases.Array i) → inside units (bases.Array i) ≡ array_part units i
  unfolding composition_within
  array_unfolded i unfolds = unfolds

  -- ---- the elements of array types

  module _ (all : List UnitParts) (are : AreOf units all) where
    pub missing : (i : ℕ) → slice_get all i ≡ None → unit_at units i ≡ None
    missing i is = unit_at-past units i (omega (arith, are.len, past all i is))

    elements_at : (i : ℕ) (parts : Option UnitParts) → slice_get all i ≡ parts
        → AreElements units (elements_in units (bases.Array i)) (option_and_then (λ (p : UnitParts). p.elements) parts)
    elements_at i None is =
        subst (λ u. AreElements units (optional_elements units u) None) (sym (missing i is)) tt
    elements_at i (Some parts) is = (are.each i parts is).elements

    elements_known : (i : ℕ) → AreElements units (elements_in units (bases.Array i)) (elements_of all i)
    elements_known i = elements_at i (slice_get all i) refl

    of_array : (i : ℕ) (es : Option Elements) (ps : Option ArrayParts) (a : ArrayParts) → AreElements units es ps → ps ≡ Some a
        → IsArrayOf (elements_composition (inside units) (unit_element_initial units (unit_at units i)) es)
        (element_of (elements_composition (inside units) (unit_element_initial units (unit_at units i)) es)) a.dimensions
    of_array i None None a is at = absurd (cc)
    of_array i None (Some b) a is at = absurd is
    of_array i (Some e) None a is at = absurd is
    of_array i (Some e) (Some b) a is at =
        subst (λ (x : ArrayParts). IsArrayOf (array e.subscripts [] (started (unit_element_initial units (unit_at units i)) (inside units e.element)))
        (started (unit_element_initial units (unit_at units i)) (inside units e.element)) x.dimensions) (same_Some b a at)
        (record {
          ranges = e.subscripts;
          firsts = [];
          is = refl;
          limited = subst (λ n. AreLimited n e.subscripts b.dimensions) (sym (started_count (unit_element_initial units (unit_at units i)) (inside units e.element))) is.1;
        })

    pub array_content : (base : Base) (i : ℕ) (a : ArrayParts) → base ≡ bases.Array i → IsUnfolded units base → elements_of all i ≡ Some a
        → IsArrayOf (inside units base) (element_of (array_part units i)) a.dimensions
    array_content base i a is unfolds at =
        subst (λ b. IsArrayOf (inside units b) (element_of (array_part units i)) a.dimensions) (sym is)
        (subst (λ c. IsArrayOf c (element_of (array_part units i)) a.dimensions) (sym (array_unfolded i (subst (IsUnfolded units) is unfolds)))
        (of_array i (elements_in units (bases.Array i)) (elements_of all i) a (elements_known i) at))

    below : (i : ℕ) (parts : Option UnitParts) (a : ArrayParts) → slice_get all i ≡ parts → option_and_then (λ (p : UnitParts). p.elements) parts ≡ Some a → i < length units
    below i None a is at = absurd (cc)
    below i (Some parts) a is at = omega (arith, are.len, slice_get_within all i parts is)

    pub element_below : (i : ℕ) (a : ArrayParts) → elements_of all i ≡ Some a → i < length units
    element_below i a at = below i (slice_get all i) a refl at

    of_none : (i : ℕ) (es : Option Elements) (ps : Option ArrayParts) → AreElements units es ps → ps ≡ None
        → elements_composition (inside units) (unit_element_initial units (unit_at units i)) es ≡ unknown
    of_none i None ps is at = refl
    of_none i (Some e) None is at = absurd is
    of_none i (Some e) (Some b) is at = absurd (cc)

    no_array : (i : ℕ) → elements_of all i ≡ None → array_part units i ≡ unknown
    no_array i at = of_none i (elements_in units (bases.Array i)) (elements_of all i) (elements_known i) at

    pub no_array_content : (base : Base) (i : ℕ) → base ≡ bases.Array i → IsUnfolded units base → elements_of all i ≡ None → HasSameParts (inside units base) unknown
    no_array_content base i is unfolds at =
        same_parts (inside units base) unknown (ap (inside units) is ∙ array_unfolded i (subst (IsUnfolded units) is unfolds) ∙ no_array i at)

    pub no_element_content : (i : ℕ) → elements_of all i ≡ None → HasSameParts (element_of (array_part units i)) unknown
    no_element_content i at = same_parts (element_of (array_part units i)) unknown (ap element_of (no_array i at))

    -- ---- types are unfolded

    unknown_unfolded : IsUnfolded units bases.Unknown
    unfolding composition_within
    unknown_unfolded = refl

    value_unfolded : (e : Elem) → IsUnfolded units (bases.Elementary e)
    unfolding composition_within
    value_unfolded e = refl

    block_unfolded : (b : StandardBlock) → IsUnfolded units (bases.Standard b)
    unfolding composition_within
    block_unfolded b = refl

    pub shape_unfolded : (s : Specification) → IsUnfolded units (shape_of units s).base
    shape_unfolded s = of_specified units (IsUnfolded units) unknown_unfolded value_unfolded block_unfolded are.unfolded s

    -- what is specified is a type
    pub shape_type : (s : Specification) → IsType units (shape_of units s).base
    shape_type s = record { unfolded = shape_unfolded s; no_function = no_function units (shape_of units s).base (known_shape units s) }

    specified_type : (s : Specification) (e : Elements) → specified_elements units s ≡ Some e → IsType units e.element
    specified_type (specifications.Simple t) e is = absurd (cc)
    specified_type (specifications.Array position ranges t) e is =
        subst (IsType units) (ap Elements.element (same_Some _ e is))
        (record {
          unfolded =
              of_name units (IsUnfolded units) unknown_unfolded value_unfolded block_unfolded t
              (all_of (λ i. IsUnfolded units (type_at units i)) (flat_map (contained units) (type_names_in t)) (λ i has. are.unfolded i));
          no_function =
              of_name units (IsNoFunction units) tt (λ e. tt) (λ b. tt) t
              (all_of (λ i. IsNoFunction units (type_at units i)) (flat_map (contained units) (type_names_in t)) (λ i has. no_function units (type_at units i) (known_type units i)));
        })

    declared_type : (unit : Declares) (e : Elements) → declared_elements units unit ≡ Some e → IsType units e.element
    declared_type (names.type (declared_types.Derived specification initial)) e is = specified_type specification e is
    declared_type (names.type (declared_types.Structure position members)) e is = absurd (cc)
    declared_type (names.function f) e is = absurd (cc)
    declared_type (names.block b) e is = absurd (cc)
    declared_type (names.program p) e is = absurd (cc)

    optional_type : (u : Option Named) (e : Elements) → optional_elements units u ≡ Some e → IsType units e.element
    optional_type None e is = absurd (cc)
    optional_type (Some u) e is = declared_type u.declares e is

    -- ---- each element of an array type

    of_element : (i : ℕ) (es : Option Elements) (ps : Option ArrayParts) (a : ArrayParts) (content : Content) → AreElements units es ps → elements_in units (bases.Array i) ≡ es → ps ≡ Some a
        → (IsType units a.base → IsContent units (inside units a.base) content)
        → IsContent units (element_of (elements_composition (inside units) (unit_element_initial units (unit_at units i)) es)) content
    of_element i None None a content is es at made = absurd (cc)
    of_element i None (Some b) a content is es at made = absurd is
    of_element i (Some e) None a content is es at made = absurd is
    of_element i (Some e) (Some b) a content is es at made =
        let same : a.base ≡ e.element = ap ArrayParts.base (sym (same_Some b a at)) ∙ is.0 in
        started_content (unit_element_initial units (unit_at units i)) (inside units e.element) content
        (subst (λ x. IsContent units (inside units x) content) same (made (subst (IsType units) (sym same) (optional_type (unit_at units i) e es))))

    pub element_content : (i : ℕ) (a : ArrayParts) (content : Content) → elements_of all i ≡ Some a → (IsType units a.base → IsContent units (inside units a.base) content)
        → IsContent units (element_of (array_part units i)) content
    element_content i a content at made = of_element i (elements_in units (bases.Array i)) (elements_of all i) a content (elements_known i) refl at made

-- ---- what follows of a content

module _ (units : List Named) where
  pub selected_same : (c d : Composition) (name : List ℕ) (r : Option (ℕ × Node)) → HasSameParts c d → IsSelected units d name r → IsSelected units c name r
  selected_same c d name None same is = same.selected name ∙ is
  selected_same c d name (Some found) same is =
      (is.0 ∙ sym (same.selected name), (λ few. is.1.0 (omega (arith, same.count, few)) ∙ sym (same.offset name), is.1.1))
