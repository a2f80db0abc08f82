-- The tables of a unit.
use Rattle.std.proofs.Common.{◌≡◌, ℕ, Bool, true, false, if◌then◌else◌, List, [], ◌∷◌, ◌++◌, length, Option, Some, None, refl, ap, sym, ◌∙◌, subst}
use Rattle.std.specs.List.{flat_map}
use Rattle.st_tree.specs.declared.tree.declaration.Initial.{Initial}
use Rattle.st_tree.specs.declared.tree.declaration.Initial.TheVariants as initials
use Rattle.st_tree.specs.declared.tree.declaration.Specification.{Specification}
use Rattle.st_tree.specs.declared.tree.declaration.Specification.TheVariants as specifications
use Rattle.st_tree.specs.declared.tree.declaration.Subrange.{Subrange}
use Rattle.st_tree.specs.declared.tree.declaration.DeclaredType.TheVariants as declared_types
use Rattle.st_values.specs.declared.elem.Elem.{Elem}
use Rattle.st_references.proofs.Lists.{all_of}
use Rattle.st_references.specs.References.{contained, specified_names}
use Rattle.st_tree.specs.Kinds.{is_constant}
use Rattle.st_types.specs.Compositions.{Composition, unknown, elementary, array, composed, standard, composition_within, elements_composition, optional_composition, started, subscripted, unit_composition}
use Rattle.st_types.specs.Initials.{element_initial, initial_at, initial_of, known, specified_initial, unit_element_initial, written_or, zero_of}
use Rattle.st_types.specs.Names.{Declared, Declares, Named, unit_at}
use Rattle.st_types.specs.Names as names
use Rattle.st_types.specs.Types.{Elements, elem_by, elem_of, elements_in, is_unknown, name_stands_for, shape_of, type_at, type_named, without_instance}
use Rattle.st_types.specs.declared.base.Base.{Base}
use Rattle.st_types.specs.declared.base.Base.TheVariants as bases
use Rattle.st_types.specs.declared.standard.StandardBlock.{StandardBlock}
use Rattle.st_check.specs.Sized.{IsSized}
use Rattle.st_check.proofs.Names.{of_shape}
use Rattle.st_leaves.specs.declared.limited.Size.{Size}
use Rattle.st_meaning.specs.Wholes.{constant_value}
use Rattle.st_places.specs.Members.{HasConstants, HasMembers, HasNames, value_declared}
use Rattle.st_places.specs.Parts.{constants_among, inside, variables_among}
use Rattle.st_places.specs.declared.unit.UnitParts.{UnitParts}

-- ---- names, one after the other

-- where one more is put at the end, and where it isn't
kept_last : (b : Bool) (w v : Declared) (more vs : List Declared) → more ≡ vs ++ v ∷ [] → (if b then w ∷ more else more) ≡ (if b then w ∷ vs else vs) ++ v ∷ []
kept_last true w v more vs is = ap (λ (us : List Declared). w ∷ us) is
kept_last false w v more vs is = is

kept_same : (b : Bool) (w : Declared) (more vs : List Declared) → more ≡ vs → (if b then w ∷ more else more) ≡ (if b then w ∷ vs else vs)
kept_same true w more vs is = ap (λ (us : List Declared). w ∷ us) is
kept_same false w more vs is = is

left_last : (b : Bool) (w v : Declared) (more vs : List Declared) → more ≡ vs ++ v ∷ [] → (if b then more else w ∷ more) ≡ (if b then vs else w ∷ vs) ++ v ∷ []
left_last true w v more vs is = is
left_last false w v more vs is = ap (λ (us : List Declared). w ∷ us) is

left_same : (b : Bool) (w : Declared) (more vs : List Declared) → more ≡ vs → (if b then more else w ∷ more) ≡ (if b then vs else w ∷ vs)
left_same true w more vs is = is
left_same false w more vs is = ap (λ (us : List Declared). w ∷ us) is

variable_last : (vs : List Declared) (v : Declared) → is_constant v.kind ≡ false → variables_among (vs ++ v ∷ []) ≡ variables_among vs ++ v ∷ []
variable_last [] v is = ap (λ (b : Bool). if b then [] else v ∷ []) is
variable_last (w ∷ vs) v is = left_last (is_constant w.kind) w v (variables_among (vs ++ v ∷ [])) (variables_among vs) (variable_last vs v is)

constants_same : (vs : List Declared) (v : Declared) → is_constant v.kind ≡ false → constants_among (vs ++ v ∷ []) ≡ constants_among vs
constants_same [] v is = ap (λ (b : Bool). if b then v ∷ [] else []) is
constants_same (w ∷ vs) v is = kept_same (is_constant w.kind) w (constants_among (vs ++ v ∷ [])) (constants_among vs) (constants_same vs v is)

constant_last : (vs : List Declared) (v : Declared) → is_constant v.kind ≡ true → constants_among (vs ++ v ∷ []) ≡ constants_among vs ++ v ∷ []
constant_last [] v is = ap (λ (b : Bool). if b then v ∷ [] else []) is
constant_last (w ∷ vs) v is = kept_last (is_constant w.kind) w v (constants_among (vs ++ v ∷ [])) (constants_among vs) (constant_last vs v is)

variables_same : (vs : List Declared) (v : Declared) → is_constant v.kind ≡ true → variables_among (vs ++ v ∷ []) ≡ variables_among vs
variables_same [] v is = ap (λ (b : Bool). if b then [] else v ∷ []) is
variables_same (w ∷ vs) v is = left_same (is_constant w.kind) w (variables_among (vs ++ v ∷ [])) (variables_among vs) (variables_same vs v is)

module _ (units : List Named) where
  pub member_more : (vs : List Declared) (v : Declared) (old new : UnitParts) → is_constant v.kind ≡ false → HasNames units vs old
      → ((us : List Declared) → HasMembers units us old.members → HasMembers units (us ++ v ∷ []) new.members) → new.constants ≡ old.constants → HasNames units (vs ++ v ∷ []) new
  member_more vs v old new is has more same = record {
    members = subst (λ us. HasMembers units us new.members) (sym (variable_last vs v is)) (more (variables_among vs) has.members);
    constants = subst (λ us. HasConstants units us new.constants) (sym (constants_same vs v is)) (subst (HasConstants units (constants_among vs)) (sym same) has.constants);
  }

  pub constant_more : (vs : List Declared) (v : Declared) (old new : UnitParts) → is_constant v.kind ≡ true → HasNames units vs old
      → ((us : List Declared) → HasConstants units us old.constants → HasConstants units (us ++ v ∷ []) new.constants) → new.members ≡ old.members → HasNames units (vs ++ v ∷ []) new
  constant_more vs v old new is has more same = record {
    members = subst (λ us. HasMembers units us new.members) (sym (variables_same vs v is)) (subst (HasMembers units (variables_among vs)) (sym same) has.members);
    constants = subst (λ us. HasConstants units us new.constants) (sym (constant_last vs v is)) (more (constants_among vs) has.constants);
  }

  -- ---- what is so of each type

  -- of what is specified
  pub of_specified : (P : Base → Type 0) → P bases.Unknown → ((e : Elem) → P (bases.Elementary e)) → ((b : StandardBlock) → P (bases.Standard b)) → ((i : ℕ) → P (type_at units i))
      → (s : Specification) → P (shape_of units s).base
  of_specified P none value block each s =
      of_shape units P none value block s (all_of (λ i. P (type_at units i)) (flat_map (contained units) (specified_names s)) (λ i has. each i))

  pub shape_sized : (sizes : List Size) → ((i : ℕ) → IsSized units sizes (type_at units i)) → (s : Specification) → IsSized units sizes (shape_of units s).base
  shape_sized sizes each s = of_specified (IsSized units sizes) (λ i is. absurd (cc)) (λ e i is. absurd (cc)) (λ b i is. absurd (cc)) each s

  -- ---- the values of constants

  -- the value that is written
  pub written_initial : (v : Declared) (initial : Initial) → v.initial ≡ Some initial → Some initial ≡ initial_of units v
  written_initial v initial is = sym (ap (λ w. known units (written_or (specified_initial units (initial_at units) v.specification) w)) is)

  no_array : (b : Bool) (ranges : List Subrange) (base : Base) (e : Elem) {A : Type 0}
      → elem_of (if b then record { subscripts = None; base = bases.Unknown } else record { subscripts = Some ranges; base = base }) ≡ Some e → A
  no_array true ranges base e is = absurd (cc)
  no_array false ranges base e is = absurd (cc)

  elements_plain : (s : Specification) (e : Elem) → elem_of (shape_of units s) ≡ Some e → element_initial units s ≡ None
  unfolding shape_of
  elements_plain (specifications.Simple t) e is = refl
  elements_plain (specifications.Array position ranges t) e is =
      no_array (is_unknown (without_instance (name_stands_for (type_named units) t))) ranges (name_stands_for (type_named units) t) e is

  of_value : (initial : Option Initial) (ranges : Option (List Subrange)) (base : Base) (e : Elem) → elem_by ranges base ≡ Some e
      → constant_value (started initial (subscripted ranges (started None (inside units base)))) ≡ constant_value (started initial (elementary (zero_of e)))
  unfolding composition_within
  of_value initial None (bases.Elementary d) e is = let same : d ≡ e = cc in ap (λ (t : Elem). constant_value (started initial (elementary (zero_of t)))) same
  of_value initial None bases.Unknown e is = absurd (cc)
  of_value initial None (bases.Array i) e is = absurd (cc)
  of_value initial None (bases.Structure i) e is = absurd (cc)
  of_value initial None (bases.Block i) e is = absurd (cc)
  of_value initial None (bases.Standard b) e is = absurd (cc)
  of_value initial (Some ranges) base e is = absurd (cc)

  pub value_at : (v : Declared) (e : Elem) → elem_of (shape_of units v.specification) ≡ Some e
      → value_declared units v ≡ constant_value (started (initial_of units v) (elementary (zero_of e)))
  value_at v e is =
      ap (λ i. constant_value (started (initial_of units v) (subscripted (shape_of units v.specification).subscripts (started i (inside units (shape_of units v.specification).base)))))
      (elements_plain v.specification e is)
      ∙ of_value (initial_of units v) (shape_of units v.specification).subscripts (shape_of units v.specification).base e is

  -- ---- what is no value

  started_none : (initial : Option Initial) (c : Composition) → constant_value c ≡ None → constant_value (started initial c) ≡ None
  started_none None c is = is
  started_none (Some (initials.Constant k)) unknown is = refl
  started_none (Some (initials.Constant k)) (elementary v) is = absurd (cc)
  started_none (Some (initials.Constant k)) (array ranges firsts c) is = refl
  started_none (Some (initials.Constant k)) (composed name ms chart) is = refl
  started_none (Some (initials.Constant k)) (standard b) is = refl
  started_none (Some (initials.Array position items)) unknown is = refl
  started_none (Some (initials.Array position items)) (elementary v) is = absurd (cc)
  started_none (Some (initials.Array position items)) (array ranges firsts c) is = refl
  started_none (Some (initials.Array position items)) (composed name ms chart) is = refl
  started_none (Some (initials.Array position items)) (standard b) is = refl

  no_elements : (f : Base → Composition) (initial : Option Initial) (elements : Option Elements) → constant_value (elements_composition f initial elements) ≡ None
  no_elements f initial None = refl
  no_elements f initial (Some elements) = refl

  no_unit : (f : Base → Composition) (name : List ℕ) (unit : Declares) → constant_value (unit_composition units f name unit) ≡ None
  no_unit f name (names.type (declared_types.Derived specification initial)) = refl
  no_unit f name (names.type (declared_types.Structure position members)) = refl
  no_unit f name (names.function h) = refl
  no_unit f name (names.block b) = refl
  no_unit f name (names.program p) = refl

  no_optional : (f : Base → Composition) (unit : Option Named) → constant_value (optional_composition units f unit) ≡ None
  no_optional f None = refl
  no_optional f (Some u) = no_unit f _ u.declares

  no_type : (base : Base) → elem_by None base ≡ None → constant_value (inside units base) ≡ None
  unfolding composition_within
  no_type bases.Unknown is = refl
  no_type (bases.Elementary e) is = absurd (cc)
  no_type (bases.Array i) is = no_elements (composition_within units (length units)) (unit_element_initial units (unit_at units i)) (elements_in units (bases.Array i))
  no_type (bases.Structure i) is = no_optional (composition_within units (length units)) (unit_at units i)
  no_type (bases.Block i) is = no_optional (composition_within units (length units)) (unit_at units i)
  no_type (bases.Standard b) is = refl

  no_shape : (initial element : Option Initial) (ranges : Option (List Subrange)) (base : Base) → elem_by ranges base ≡ None
      → constant_value (started initial (subscripted ranges (started element (inside units base)))) ≡ None
  no_shape initial element None base is = started_none initial (started element (inside units base)) (started_none element (inside units base) (no_type base is))
  no_shape initial element (Some ranges) base is = started_none initial (array ranges [] (started element (inside units base))) refl

  pub no_value : (v : Declared) → elem_of (shape_of units v.specification) ≡ None → value_declared units v ≡ None
  no_value v is = no_shape (initial_of units v) (element_initial units v.specification) (shape_of units v.specification).subscripts (shape_of units v.specification).base is
