-- Which names are instances of function blocks of the text, by what is declared.
use Rattle.std.proofs.Common.{◌≡◌, ℕ, Bool, true, false, ◌&&◌, nat_le, List, [], ◌∷◌, map, length, Option, Some, None, refl, ap, sym, ◌∙◌, subst, if◌then◌else◌}
use Rattle.std.specs.Char.{to_ascii_uppercase}
use Rattle.std.specs.List.{Contains, flat_map}
use Rattle.std.proofs.lemmas.Grind.{flat_map-append}
use Rattle.std.proofs.lemmas.List.Elements.{Contains-append_left, Contains-append_right}
use Rattle.st_leaves.specs.Places.{count}
use Rattle.st_leaves.specs.Selected.{member_selected, selected_by}
use Rattle.st_meaning.specs.Units.{block_invoked, body_of_unit, instance_of, instances_in, member_instance, number_invoked, root_of, unit_invoked, unit_root, unit_whole}
use Rattle.st_meaning.specs.Wholes.{Invoked}
use Rattle.st_references.proofs.Listed.{Contains-nil}
use Rattle.st_references.specs.References.{contained, declared_names, unit_types}
use Rattle.st_tree.specs.declared.tree.declaration.DeclaredType.TheVariants as declared_types
use Rattle.st_tree.specs.declared.tree.declaration.Initial.{Initial}
use Rattle.st_tree.specs.declared.tree.declaration.Initial.TheVariants as initials
use Rattle.st_tree.specs.declared.tree.declaration.Specification.{Specification}
use Rattle.st_tree.specs.declared.tree.declaration.Specification.TheVariants as specifications
use Rattle.st_tree.specs.declared.tree.declaration.Subrange.{Subrange}
use Rattle.st_tree.specs.declared.tree.position.Identifier.{Identifier}
use Rattle.st_tree.specs.declared.tree.unit.ChartElement.{ChartElement}
use Rattle.st_tree.specs.Kinds.{is_constant}
use Rattle.st_types.specs.Compositions.{Composition, unknown, elementary, array, composed, standard, Members, none, member, composition_within, declared_composition, elements_composition, members_by, optional_composition, started, subscripted, unit_composition}
use Rattle.st_types.specs.Initials.{element_initial, initial_of, unit_element_initial}
use Rattle.st_types.specs.Names.{Declared, Declares, Named, chart_of, members_of, named, number_of, unit_at, variables_of}
use Rattle.st_types.specs.Names as names
use Rattle.st_types.specs.Types.{Elements, elements_in, is_unknown, name_stands_for, shape_of, type_at, unit_stands_for, without_instance}
use Rattle.st_types.specs.declared.base.Base.{Base}
use Rattle.st_types.specs.declared.base.Base.TheVariants as bases
use Rattle.st_types.specs.declared.standard.StandardBlock.{StandardBlock}
use Rattle.st_values.specs.Words.{is_word}
use Rattle.st_values.specs.declared.elem.Elem.{Elem}
use Rattle.st_places.specs.Contents.{AreNamed, IsUnfolded}
use Rattle.st_places.specs.Members.{is_small_type}
use Rattle.st_places.specs.Parts.{inside, is_block, own_names}
use Rattle.st_places.proofs.Blocks.{IsDeclared, IsKnown, known_shape}
use Rattle.st_places.proofs.Entries.{of_specified}
use Rattle.st_places.proofs.Roots.{root_is}

module _ (units : List Named) where
  -- what an instance of this function block, whose number this is, invokes
  abbrev pub invocation : ℕ → Named → Invoked
  invocation i block = record { number = i; body = body_of_unit units i block }

  abbrev pub unit_invocation : ℕ → Named → Option Invoked
  unit_invocation i u = if is_block u.declares then Some (invocation i u) else None

  abbrev pub optional_invocation : ℕ → Option Named → Option Invoked
  optional_invocation i None = None
  optional_invocation i (Some u) = unit_invocation i u

  -- what an instance of this type invokes
  abbrev pub base_invocation : Base → Option Invoked
  base_invocation (bases.Block i) = optional_invocation i (unit_at units i)
  base_invocation _ = None

  abbrev pub shape_invocation : Option (List Subrange) → Base → Option Invoked
  shape_invocation None base = base_invocation base
  shape_invocation (Some ranges) base = None

  -- ---- what begins with a value

  pub started_instance : (initial : Option Initial) (c : Composition) → instance_of units (started initial c) ≡ instance_of units c
  started_instance None c = refl
  started_instance (Some (initials.Constant k)) unknown = refl
  started_instance (Some (initials.Constant k)) (elementary v) = refl
  started_instance (Some (initials.Constant k)) (array ranges firsts c) = refl
  started_instance (Some (initials.Constant k)) (composed name ms chart) = refl
  started_instance (Some (initials.Constant k)) (standard b) = refl
  started_instance (Some (initials.Array position items)) unknown = refl
  started_instance (Some (initials.Array position items)) (elementary v) = refl
  started_instance (Some (initials.Array position items)) (array ranges firsts c) = refl
  started_instance (Some (initials.Array position items)) (composed name ms chart) = refl
  started_instance (Some (initials.Array position items)) (standard b) = refl

  array_instance : (initial : Option Initial) (ranges : List Subrange) (c : Composition) → instance_of units (started initial (array ranges [] c)) ≡ None
  array_instance initial ranges c = started_instance initial (array ranges [] c)

  elements_instance : (f : Base → Composition) (initial : Option Initial) (elements : Option Elements) → instance_of units (elements_composition f initial elements) ≡ None
  elements_instance f initial None = refl
  elements_instance f initial (Some elements) = refl

  -- ---- units

  -- what bears the name of a unit is an instance of this one
  by_number : (c : Composition) (more : List ℕ → Option Invoked) (name : List ℕ) (i : ℕ) (u : Named) → number_of units name ≡ Some i → unit_at units i ≡ Some u
      → number_invoked units c more (number_of units name) ≡ block_invoked units i c more u.declares
  by_number c more name i u found at = ap (number_invoked units c more) found ∙ ap (unit_invoked units i c more) at

  composed_instance : (whole : List ℕ) (ms : Members) (chart : List ChartElement) (i : ℕ) (u : Named) → number_of units whole ≡ Some i → unit_at units i ≡ Some u
      → instance_of units (composed whole ms chart) ≡ block_invoked units i (composed whole ms chart) (member_instance units ms) u.declares
  composed_instance whole ms chart i u found at = by_number (composed whole ms chart) (member_instance units ms) whole i u found at

  unit_instance : (i : ℕ) (name : Identifier) (d : Declares) → number_of units (map to_ascii_uppercase name.spelling) ≡ Some i → unit_at units i ≡ Some (named name d)
      → instance_of units (unit_composition units (inside units) (map to_ascii_uppercase name.spelling) d) ≡ unit_invocation i (named name d)
  unfolding unit_whole
  unit_instance i name (names.type (declared_types.Derived specification initial)) found at =
      composed_instance (map to_ascii_uppercase name.spelling) none [] i (named name (names.type (declared_types.Derived specification initial))) found at
  unit_instance i name (names.type (declared_types.Structure position members)) found at =
      composed_instance (map to_ascii_uppercase name.spelling) (members_by units (inside units) (members_of members)) [] i (named name (names.type (declared_types.Structure position members))) found at
  unit_instance i name (names.function f) found at =
      composed_instance (map to_ascii_uppercase name.spelling) (members_by units (inside units) (variables_of f.variables)) [] i (named name (names.function f)) found at
  unit_instance i name (names.block b) found at =
      composed_instance (map to_ascii_uppercase name.spelling) (members_by units (inside units) (variables_of b.variables)) (chart_of b.body) i (named name (names.block b)) found at
  unit_instance i name (names.program p) found at =
      composed_instance (map to_ascii_uppercase name.spelling) (members_by units (inside units) (variables_of p.variables)) (chart_of p.body) i (named name (names.program p)) found at

  -- what a function block's instances consist of is what its variables do
  pub block_root : (u : Named) → is_block u.declares ≡ true → unit_composition units (inside units) (map to_ascii_uppercase u.name.spelling) u.declares ≡ root_of units u
  block_root u is = by u.declares refl is
    where
      by : (d : Declares) → u.declares ≡ d → is_block d ≡ true → unit_composition units (inside units) (map to_ascii_uppercase u.name.spelling) u.declares ≡ root_of units u
      by (names.type t) same is = absurd (cc)
      by (names.function f) same is = absurd (cc)
      by (names.block b) same is =
          subst (λ (d : Declares). unit_composition units (inside units) (map to_ascii_uppercase u.name.spelling) d ≡ root_of units (record { name = u.name; declares = d })) (sym same) refl
      by (names.program p) same is = absurd (cc)

-- ---- in a text whose units are found by their names, and whose types are unfolded

pub record AreFound (units : List Named) : Type 0 where
  pub named : AreNamed units
  pub unfolded : (i : ℕ) → IsUnfolded units (type_at units i)

module _ (units : List Named) (found : AreFound units) where
  unknown_unfolded : IsUnfolded units bases.Unknown
  unfolding composition_within
  unknown_unfolded = refl

  value_unfolded : (e : Elem) → IsUnfolded units (bases.Elementary e)
  unfolding composition_within
  value_unfolded e = refl

  block_unfolded : (b : StandardBlock) → IsUnfolded units (bases.Standard b)
  unfolding composition_within
  block_unfolded b = refl

  pub shape_unfolded : (s : Specification) → IsUnfolded units (shape_of units s).base
  shape_unfolded s = of_specified units (IsUnfolded units) unknown_unfolded value_unfolded block_unfolded found.unfolded s

  of_structure : (i : ℕ) → IsUnfolded units (bases.Structure i) → inside units (bases.Structure i) ≡ optional_composition units (inside units) (unit_at units i)
  unfolding composition_within
  of_structure i unfolds = unfolds

  pub of_block : (i : ℕ) → IsUnfolded units (bases.Block i) → inside units (bases.Block i) ≡ optional_composition units (inside units) (unit_at units i)
  unfolding composition_within
  of_block i unfolds = unfolds

  optional_instance : (i : ℕ) (u : Option Named) → unit_at units i ≡ u → instance_of units (optional_composition units (inside units) u) ≡ optional_invocation units i u
  optional_instance i None at = refl
  optional_instance i (Some u) at = unit_instance units i u.name u.declares (found.named i u at) at

  no_structure : (i : ℕ) (u : Option Named) → unit_at units i ≡ u → IsDeclared units i false → optional_invocation units i u ≡ None
  no_structure i None at is = refl
  no_structure i (Some u) at is =
      let there : Some is.unit ≡ Some u = sym is.at ∙ at in
      let same : is.unit ≡ u = cc in
      ap (λ (b : Bool). if b then Some (invocation units i u) else None) (subst (λ (w : Named). is_block w.declares ≡ false) same is.is)

  base_instance : (base : Base) → IsKnown units base → IsUnfolded units base → instance_of units (inside units base) ≡ base_invocation units base
  unfolding composition_within
  base_instance bases.Unknown known unfolds = refl
  base_instance (bases.Elementary e) known unfolds = refl
  base_instance (bases.Array i) known unfolds = elements_instance units (composition_within units (length units)) (unit_element_initial units (unit_at units i)) (elements_in units (bases.Array i))
  base_instance (bases.Structure i) known unfolds =
      ap (instance_of units) (of_structure i unfolds) ∙ optional_instance i (unit_at units i) refl ∙ no_structure i (unit_at units i) refl known
  base_instance (bases.Block i) known unfolds = ap (instance_of units) (of_block i unfolds) ∙ optional_instance i (unit_at units i) refl
  base_instance (bases.Standard b) known unfolds = refl

  shape_instance : (initial begins : Option Initial) (ranges : Option (List Subrange)) (base : Base) → IsKnown units base → IsUnfolded units base
      → instance_of units (started initial (subscripted ranges (started begins (inside units base)))) ≡ shape_invocation units ranges base
  shape_instance initial begins None base known unfolds =
      started_instance units initial (started begins (inside units base)) ∙ started_instance units begins (inside units base) ∙ base_instance base known unfolds
  shape_instance initial begins (Some ranges) base known unfolds = array_instance units initial ranges (started begins (inside units base))

  -- what a declared name invokes
  pub declared_instance : (v : Declared) → instance_of units (declared_composition units (inside units) v) ≡ shape_invocation units (shape_of units v.specification).subscripts (shape_of units v.specification).base
  declared_instance v =
      shape_instance (initial_of units v) (element_initial units v.specification) (shape_of units v.specification).subscripts (shape_of units v.specification).base
      (known_shape units v.specification) (shape_unfolded v.specification)

-- ---- how large instances are

module _ (units : List Named) where
  no_small : (base : Base) → is_small_type units (without_instance base) ≡ false
  no_small bases.Unknown = refl
  no_small (bases.Elementary e) = refl
  no_small (bases.Array i) = refl
  no_small (bases.Structure i) = refl
  no_small (bases.Block i) = refl
  no_small (bases.Standard b) = refl

  no_small_array : (i : ℕ) (t : Bool) → is_small_type units (if t then bases.Unknown else bases.Array i) ≡ false
  no_small_array i true = refl
  no_small_array i false = refl

  pub small_unit : (f : List ℕ → Base) (i : ℕ) (u : Named) (d : Declares) → u.declares ≡ d → (is_block d ≡ true → unit_stands_for f i d ≡ bases.Block i → inside units (bases.Block i) ≡ root_of units u)
      → is_small_type units (unit_stands_for f i d) ≡ (is_block d && nat_le (count (root_of units u)) 65536)
  small_unit f i u (names.type (declared_types.Derived (specifications.Simple t) initial)) is root = no_small (name_stands_for f t)
  small_unit f i u (names.type (declared_types.Derived (specifications.Array position ranges t) initial)) is root = no_small_array i (is_unknown (without_instance (name_stands_for f t)))
  small_unit f i u (names.type (declared_types.Structure position members)) is root = refl
  small_unit f i u (names.function g) is root = refl
  small_unit f i u (names.block b) is root = ap (λ (c : Composition). nat_le (count c) 65536) (root refl refl)
  small_unit f i u (names.program p) is root = refl

-- ---- by names

module _ (units : List Named) where
  -- which declared name an instance is
  pub record IsOfDeclared (vs : List Declared) (name : List ℕ) (found : Invoked) : Type 0 where
    pub v : Declared
    pub instance : instance_of units (declared_composition units (inside units) v) ≡ Some found
    pub selected : member_selected (members_by units (inside units) vs) name ≡ declared_composition units (inside units) v
    pub contained : (j : ℕ) → Contains (flat_map (contained units) (declared_names v)) j → Contains (flat_map (contained units) (flat_map declared_names vs)) j

  later : (v : Declared) (vs : List Declared) (j : ℕ) → Contains (flat_map (contained units) (flat_map declared_names vs)) j
      → Contains (flat_map (contained units) (flat_map declared_names (v ∷ vs))) j
  later v vs j has =
      subst (λ (l : List ℕ). Contains l j) (sym (flat_map-append (contained units) (declared_names v) (flat_map declared_names vs)))
      (Contains-append_right (flat_map (contained units) (declared_names v)) (flat_map (contained units) (flat_map declared_names vs)) j has)

  first : (v : Declared) (vs : List Declared) (j : ℕ) → Contains (flat_map (contained units) (declared_names v)) j
      → Contains (flat_map (contained units) (flat_map declared_names (v ∷ vs))) j
  first v vs j has =
      subst (λ (l : List ℕ). Contains l j) (sym (flat_map-append (contained units) (declared_names v) (flat_map declared_names vs)))
      (Contains-append_left (flat_map (contained units) (declared_names v)) (flat_map (contained units) (flat_map declared_names vs)) j has)

  -- one name more, which is left out where it is a constant's
  one_more : (b w : Bool) (v : Declared) (vs : List Declared) (name : List ℕ) (found : Invoked) → is_constant v.kind ≡ b → is_word v.name.spelling name ≡ w
      → member_instance units (if b then members_by units (inside units) vs else member v.name.spelling v.kind (declared_composition units (inside units) v) (members_by units (inside units) vs)) name ≡ Some found
      → (member_instance units (members_by units (inside units) vs) name ≡ Some found → IsOfDeclared vs name found) → IsOfDeclared (v ∷ vs) name found
  one_more true w v vs name found is word h more =
      let rest : IsOfDeclared vs name found = more h in
      record {
        v = rest.v;
        instance = rest.instance;
        selected = ap (λ (b : Bool). member_selected (if b then members_by units (inside units) vs else member v.name.spelling v.kind (declared_composition units (inside units) v) (members_by units (inside units) vs)) name) is ∙ rest.selected;
        contained = λ j has. later v vs j (rest.contained j has);
      }
  one_more false true v vs name found is word h more = record {
    v = v;
    instance = sym (ap (λ (b : Bool). if b then instance_of units (declared_composition units (inside units) v) else member_instance units (members_by units (inside units) vs) name) word) ∙ h;
    selected =
        ap (λ (b : Bool). member_selected (if b then members_by units (inside units) vs else member v.name.spelling v.kind (declared_composition units (inside units) v) (members_by units (inside units) vs)) name) is
        ∙ ap (λ (b : Bool). if b then declared_composition units (inside units) v else member_selected (members_by units (inside units) vs) name) word;
    contained = λ j has. first v vs j has;
  }
  one_more false false v vs name found is word h more =
      let rest : IsOfDeclared vs name found =
      more (sym (ap (λ (b : Bool). if b then instance_of units (declared_composition units (inside units) v) else member_instance units (members_by units (inside units) vs) name) word) ∙ h) in
      record {
        v = rest.v;
        instance = rest.instance;
        selected =
            ap (λ (b : Bool). member_selected (if b then members_by units (inside units) vs else member v.name.spelling v.kind (declared_composition units (inside units) v) (members_by units (inside units) vs)) name) is
            ∙ ap (λ (b : Bool). if b then declared_composition units (inside units) v else member_selected (members_by units (inside units) vs) name) word ∙ rest.selected;
        contained = λ j has. later v vs j (rest.contained j has);
      }

  pub among : (vs : List Declared) (name : List ℕ) (found : Invoked) → member_instance units (members_by units (inside units) vs) name ≡ Some found → IsOfDeclared vs name found
  among [] name found h = absurd (cc)
  among (v ∷ vs) name found h = one_more (is_constant v.kind) (is_word v.name.spelling name) v vs name found refl refl h (among vs name found)

  -- ---- of a unit

  pub of_unit : (whole : List ℕ) (d : Declares) (name : List ℕ) → instances_in units (unit_root units whole d) name ≡ member_instance units (members_by units (inside units) (own_names d)) name
  of_unit whole d name = ap (λ c. instances_in units c name) (root_is units whole d)

  pub selected_of_unit : (whole : List ℕ) (d : Declares) (name : List ℕ) → selected_by (unit_root units whole d) name ≡ member_selected (members_by units (inside units) (own_names d)) name
  selected_of_unit whole d name = ap (λ c. selected_by c name) (root_is units whole d)

  pub contained_in : (d : Declares) (j : ℕ) → Contains (flat_map (contained units) (flat_map declared_names (own_names d))) j → Contains (flat_map (contained units) (unit_types d)) j
  contained_in (names.type (declared_types.Derived specification initial)) j has = absurd (Contains-nil j has)
  contained_in (names.type (declared_types.Structure position members)) j has = has
  contained_in (names.function f) j has = has
  contained_in (names.block b) j has = has
  contained_in (names.program p) j has = has
