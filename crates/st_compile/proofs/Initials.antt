-- In a text without faults all that is declared begins with what is written.
use Rattle.std.proofs.Common.{◌≡◌, ℕ, zero, suc, Bool, true, false, if◌then◌else◌, List, [], ◌∷◌, ◌++◌, length, take, replicate, Option, Some, None, refl, sym, ap, ◌∙◌, subst, arith}
use Rattle.std.specs.List.{AllByRecursion as Each, flat_map, sum_by}
use Rattle.std.specs.Option.{option_map}
use Rattle.std.proofs.lemmas.List.Elements.{All-contains}
use Rattle.st_values.specs.declared.elem.Elem.{Elem}
use Rattle.st_values.specs.declared.value.Value.{Value}
use Rattle.st_tree.specs.declared.tree.constant.Constant.{Constant}
use Rattle.st_tree.specs.declared.tree.declaration.ArrayElement.{ArrayElement}
use Rattle.st_tree.specs.declared.tree.declaration.ArrayElement.TheVariants as array_elements
use Rattle.st_tree.specs.declared.tree.declaration.Declaration.{Declaration}
use Rattle.st_tree.specs.declared.tree.declaration.DeclaredType.TheVariants as declared_types
use Rattle.st_tree.specs.declared.tree.declaration.Initial.{Initial}
use Rattle.st_tree.specs.declared.tree.declaration.Initial.TheVariants as initials
use Rattle.st_tree.specs.declared.tree.declaration.Specification.{Specification}
use Rattle.st_tree.specs.declared.tree.declaration.Specification.TheVariants as specifications
use Rattle.st_tree.specs.declared.tree.declaration.Subrange.{Subrange}
use Rattle.st_tree.specs.declared.tree.declaration.TypeName.{TypeName}
use Rattle.st_tree.specs.declared.tree.declaration.TypeName.TheVariants as type_names
use Rattle.st_tree.specs.declared.tree.declaration.VarBlock.{VarBlock}
use Rattle.st_tree.specs.declared.tree.declaration.VarKind.TheVariants as var_kinds
use Rattle.st_tree.specs.declared.tree.position.Identifier.{Identifier}
use Rattle.st_tree.specs.declared.tree.position.Position.{Position}
use Rattle.st_faults.specs.Faults.{fault, when}
use Rattle.st_faults.specs.declared.fault.Rule.TheVariants as rules
use Rattle.st_references.specs.Graphs.{IsOrder}
use Rattle.st_references.specs.References.{graph_of}
use Rattle.st_references.proofs.InOrder.{all_in_order}
use Rattle.st_check.proofs.Unfolding.{unfolded}
use Rattle.st_types.specs.Compositions.{Composition, array, elements_composition, composition_within, specified_composition, started}
use Rattle.st_types.specs.Initials.{declares_initial, element_initial, first_values, initial_at, initial_named, initial_of, initial_within, known, name_initial, specified_initial, standing_initial, unit_element_initial, unit_initial, value_written, written_or}
use Rattle.st_types.specs.Names.{Declared, Declares, Named, members_of, number_of, unit_at, units_of, variables_of}
use Rattle.st_types.specs.Names as names
use Rattle.st_types.specs.Scopes.{scope_of}
use Rattle.st_types.specs.Scopes as scopes
use Rattle.st_types.specs.Standard.{standard_of}
use Rattle.st_types.specs.declared.standard.Standard.{Standard}
use Rattle.st_types.specs.declared.base.Base.{Base}
use Rattle.st_types.specs.declared.base.Base.TheVariants as bases
use Rattle.st_types.specs.Types.{Elements, Shape, array_of, derived_stands_for, elem_of, elements_in, is_instance, is_unknown, name_stands_for, optional_elements, optional_stands_for, plain, shape_of, stands_for, type_at, type_named, without_instance}
use Rattle.st_types.specs.Types as types
use Rattle.st_leaves.specs.Selected.{element_of as composition_element, value_type}
use Rattle.st_leaves.proofs.Pairs.{each_weaker}
use Rattle.st_check_expressions.specs.Known.{literal_faults, literal_position}
use Rattle.st_check_statements.specs.Statements.{body_faults}
use Rattle.st_check_units.specs.Declarations.{block_faults, constant_faults, declaration_faults, declared_names, element_of, elements_of, initial_faults, is_composed, is_excessive, is_excessive_by, is_misdeclared, is_misvalued, is_structure, item_faults, item_size, list_faults_by, literal_faults_by, specified_faults, value_faults}
use Rattle.st_check_units.specs.Repeats.{repeated}
use Rattle.st_check_units.specs.Subscripts.{array_size, is_more}
use Rattle.st_check_units.specs.Units.{node_faults, unit_faults, variable_names}
use Rattle.st_check_units.specs.declared.permitted.Permitted.TheVariants as permits
use Rattle.st_check.proofs.Apart.{kept_when, neither, nothing_parts}
use Rattle.st_check.proofs.DataTypes.{IsData}
use Rattle.st_check.proofs.UnitsApart.{unit_faultless}
use Rattle.st_places.specs.Parts.{inside}
use Rattle.st_compile.specs.Initials.{AreElements, InitialsAreStrict, IsBegun, IsBegunStrictly, all_declared, no_element, unwritten_then, written_then}
use Rattle.st_compile.specs.Initials as strict
use Rattle.st_compile.specs.Terms.{IsLiteral}
use Rattle.st_compile.specs.Ties.{IsMadeOf}
use Rattle.st_compile.proofs.InitialsFound.{declared_found, name_found}
use Rattle.st_compile.proofs.Literals.{literal_is}
use Rattle.st_compile.proofs.Made.{made_elements, made_known, made_value}
use Rattle.st_compile.proofs.Names.{one_value}
use Rattle.st_compile.proofs.Types.{DeclaredFits, FitsAs, IsKnownAs, VariableFits, array_shape_is, blocks_fit, data_specified, declarations_fit, here, in_order, pou_blocks, said, said_made, specified_base, specified_fit, specified_good, started_made, variable_kind}

-- where no rule is broken by an initial value of what is made of this
abbrev pub FitsAt : List Named → Shape → Option Initial → Type 0
FitsAt units s initial = (initial_faults units s initial ≡ []) × (is_misvalued units s initial ≡ false)

nothing_fits : (units : List Named) (s : Shape) → FitsAt units s None
nothing_fits units s = (refl, refl)

-- ---- the values that are written

one_more : (c : Composition) (n : ℕ) (os : List (Option Constant)) → AreElements c os → AreElements c (replicate n None ++ os)
one_more c zero os rest = rest
one_more c (suc n) os rest = unwritten_then (one_more c n os rest)

more_written : (c : Composition) (e : Elem) (k : Constant) (v : Value) → value_type c ≡ Some e → IsLiteral e k v → (n : ℕ) (os : List (Option Constant)) → AreElements c os → AreElements c (replicate n (Some k) ++ os)
more_written c e k v type is zero os rest = rest
more_written c e k v type is (suc n) os rest = written_then type is (more_written c e k v type is n os rest)

literal_begun : (k : Constant) (e : Elem) (c : Composition) → value_type c ≡ Some e → literal_faults k (literal_position k) e ≡ [] → IsBegun (Some (initials.Constant k)) c (started (Some (initials.Constant k)) c)
literal_begun k e c type h =
    let x = one_value c e type in
    let is = subst (λ (t : Elem). IsLiteral t k (value_written t k)) (sym x.2) (literal_is k (literal_position k) e h) in
    subst (λ (z : Composition). IsBegun (Some (initials.Constant k)) z (started (Some (initials.Constant k)) z)) (sym x.1) (strict.literal is)

no_array : (o : Option Base) (i : ℕ) (k : Constant) → literal_faults_by o (bases.Array i) k ≡ [] → ⊥
no_array None i k h = cc
no_array (Some element) i k h = cc

module _ (units : List Named) (d : Declares) where
  -- an array of such elements, which are no instances
  pub record IsArrayOf (c : Composition) (es : Elements) : Type 0 where
    pub firsts : List (Option Constant)
    pub element : Composition
    pub is : c ≡ array es.subscripts firsts element
    pub is_made : IsMadeOf (here units d) (plain es.element) element
    pub no_instance : is_instance es.element ≡ false

  constant_begun : (s : Shape) (c : Composition) (k : Constant) → IsMadeOf (here units d) s c → is_composed s ≡ false → literal_faults_by (element_of units s) s.base k ≡ []
      → IsBegun (Some (initials.Constant k)) c (started (Some (initials.Constant k)) c)
  constant_begun s c k is simple h = by s.subscripts s.base refl refl simple h where
    by : (r : Option (List Subrange)) (b : Base) → s.subscripts ≡ r → s.base ≡ b → is_composed (record { subscripts = r; base = b }) ≡ false
        → literal_faults_by (element_of units (record { subscripts = r; base = b })) b k ≡ [] → IsBegun (Some (initials.Constant k)) c (started (Some (initials.Constant k)) c)
    by (Some ranges) b p q m h = absurd (cc)
    by None (bases.Elementary e) p q m h =
        literal_begun k e c (made_value (here units d) s c is e (ap (λ (r : Option (List Subrange)). types.elem_by r s.base) p ∙ ap (types.elem_by None) q)) h
    by None bases.Unknown p q m h = absurd (let e : true ≡ false = sym (ap is_unknown q) ∙ made_known (here units d) s c is in cc)
    by None (bases.Array i) p q m h = absurd (no_array (element_of units (plain (bases.Array i))) i k h)
    by None (bases.Structure i) p q m h = absurd (cc)
    by None (bases.Block i) p q m h = absurd (cc)
    by None (bases.Standard b) p q m h = absurd (cc)

  -- a literal for elements
  record IsWritten (c : Composition) (k : Constant) : Type 0 where
    pub elem : Elem
    pub value : Value
    pub type : value_type c ≡ Some elem
    pub is : IsLiteral elem k value

  value_one : (element : Base) (c : Composition) (k : Constant) → IsMadeOf (here units d) (plain element) c → is_structure element ≡ false → is_instance element ≡ false → constant_faults element k ≡ []
      → IsWritten c k
  value_one (bases.Elementary e) c k is flat one h =
      record { elem = e; value = value_written e k; type = made_value (here units d) (plain (bases.Elementary e)) c is e refl; is = literal_is k (literal_position k) e h }
  value_one bases.Unknown c k is flat one h = absurd (let e : true ≡ false = made_known (here units d) (plain bases.Unknown) c is in cc)
  value_one (bases.Array i) c k is flat one h = absurd (cc)
  value_one (bases.Structure i) c k is flat one h = absurd (cc)
  value_one (bases.Block i) c k is flat one h = absurd (cc)
  value_one (bases.Standard b) c k is flat one h = absurd (cc)

  elements_begun : (element : Base) (c : Composition) → IsMadeOf (here units d) (plain element) c → is_structure element ≡ false → is_instance element ≡ false
      → (items : List ArrayElement) → flat_map (item_faults element) items ≡ [] → AreElements c (first_values items)
  elements_begun element c is flat one [] h = no_element
  elements_begun element c is flat one (array_elements.Single k ∷ items) h =
      let parts = nothing_parts (constant_faults element k) (flat_map (item_faults element) items) h in
      let x = value_one element c k is flat one parts.0 in
      written_then x.type x.is (elements_begun element c is flat one items parts.1)
  elements_begun element c is flat one (array_elements.Repeated position n None ∷ items) h = one_more c n (first_values items) (elements_begun element c is flat one items h)
  elements_begun element c is flat one (array_elements.Repeated position n (Some k) ∷ items) h =
      let parts = nothing_parts (constant_faults element k) (flat_map (item_faults element) items) h in
      let x = value_one element c k is flat one parts.0 in
      more_written c x.elem k x.value x.type x.is n (first_values items) (elements_begun element c is flat one items parts.1)

  list_begun : (s : Shape) (c : Composition) (position : Position) (items : List ArrayElement) → IsMadeOf (here units d) s c → ((es : Elements) → elements_of units s ≡ Some es → IsArrayOf c es)
      → list_faults_by (element_of units s) s.base position items ≡ [] → is_excessive_by (elements_of units s) items ≡ false
      → IsBegun (Some (initials.Array position items)) c (started (Some (initials.Array position items)) c)
  list_begun s c position items is arrays h few = by (elements_of units s) refl h few where
    by : (o : Option Elements) → elements_of units s ≡ o → list_faults_by (option_map (λ (e : Elements). e.element) o) s.base position items ≡ [] → is_excessive_by o items ≡ false
        → IsBegun (Some (initials.Array position items)) c (started (Some (initials.Array position items)) c)
    by None q h few =
        absurd (let e : fault position rules.TypeMismatch ∷ [] ≡ [] =
        subst (λ (b : Bool). (if b then flat_map (item_faults s.base) items else fault position rules.TypeMismatch ∷ []) ≡ []) (made_known (here units d) s c is) h in cc)
    by (Some es) q h few =
        let a = arrays es q in
        let no = neither (is_structure es.element) (is_more (sum_by item_size items) (array_size es.subscripts)) few in
        subst (λ (z : Composition). IsBegun (Some (initials.Array position items)) z (started (Some (initials.Array position items)) z)) (sym a.is)
        (strict.list position no.1 (elements_begun es.element a.element a.is_made no.0 a.no_instance items h))

  begun_at : (s : Shape) (c : Composition) (initial : Option Initial) → IsMadeOf (here units d) s c → ((es : Elements) → elements_of units s ≡ Some es → IsArrayOf c es) → FitsAt units s initial
      → IsBegun initial c (started initial c)
  begun_at s c None is arrays fits = strict.unwritten
  begun_at s c (Some (initials.Constant k)) is arrays fits =
      let simple = (neither (is_composed s) (is_excessive units s (initials.Constant k)) fits.1).0 in
      constant_begun s c k is simple (subst (λ (b : Bool). (if b then [] else value_faults units s (initials.Constant k)) ≡ []) simple fits.0)
  begun_at s c (Some (initials.Array position items)) is arrays fits =
      let no = neither (is_composed s) (is_excessive units s (initials.Array position items)) fits.1 in
      list_begun s c position items is arrays (subst (λ (b : Bool). (if b then [] else value_faults units s (initials.Array position items)) ≡ []) no.0 fits.0) no.1

-- ---- types

-- a type that is known is that which it is declared as
known_type : (base : Base) → is_unknown (without_instance base) ≡ false → without_instance base ≡ base
known_type base h = by (is_instance base) refl h where
  by : (b : Bool) → is_instance base ≡ b → is_unknown (if b then bases.Unknown else base) ≡ false → (if is_instance base then bases.Unknown else base) ≡ base
  by true q h = absurd (cc)
  by false q h = ap (λ (b : Bool). if b then bases.Unknown else base) q

known_array : (i : ℕ) (base : Base) → is_unknown (array_of i base) ≡ false → array_of i base ≡ bases.Array i
known_array i base h = by (is_unknown (without_instance base)) refl h where
  by : (b : Bool) → is_unknown (without_instance base) ≡ b → is_unknown (if b then bases.Unknown else bases.Array i) ≡ false → (if is_unknown (without_instance base) then bases.Unknown else bases.Array i) ≡ bases.Array i
  by true q h = absurd (cc)
  by false q h = ap (λ (b : Bool). if b then bases.Unknown else bases.Array i) q

-- an array fits as a type of such arrays does
array_fits : (units : List Named) (i : ℕ) (ranges : List Subrange) (base : Base) (initial : Option Initial) → elements_in units (bases.Array i) ≡ Some (record { subscripts = ranges; element = base })
    → FitsAt units (record { subscripts = Some ranges; base = base }) initial → FitsAt units (plain (bases.Array i)) initial
array_fits units i ranges base None found fits = fits
array_fits units i ranges base (Some (initials.Constant k)) found fits =
    (ap (λ (o : Option Elements). literal_faults_by (option_map (λ (e : Elements). e.element) o) (bases.Array i) k) found ∙ fits.0, refl)
array_fits units i ranges base (Some (initials.Array position items)) found fits = (
  ap (λ (o : Option Elements). list_faults_by (option_map (λ (e : Elements). e.element) o) (bases.Array i) position items) found ∙ fits.0,
  ap (λ (o : Option Elements). is_excessive_by o items) found ∙ fits.1,
)

simple_fits : (units : List Named) (t : TypeName) (initial : Option Initial) → FitsAt units (plain (name_stands_for (type_named units) t)) initial → FitsAt units (shape_of units (specifications.Simple t)) initial
unfolding shape_of
simple_fits units t initial fits = fits

array_base_is : (units : List Named) (position : Position) (ranges : List Subrange) (t : TypeName) → IsData (name_stands_for (type_named units) t)
    → (shape_of units (specifications.Array position ranges t)).base ≡ name_stands_for (type_named units) t
unfolding shape_of
array_base_is units position ranges t is = ap (λ (z : Shape). z.base) (array_shape_is ranges (name_stands_for (type_named units) t) is)

module _ (units : List Named) (order : List ℕ) (ordered : IsOrder (graph_of units) order) (faultless : node_faults units ≡ []) (d : Declares) where
  -- what a type is declared as has no fault
  derived_fit : (i : ℕ) (u : Named) (s : Specification) (own : Option Initial) → unit_at units i ≡ Some u → u.declares ≡ names.type (declared_types.Derived s own) → FitsAs units permits.Types s own
  derived_fit i u s own at is =
      let clean = subst (λ (e : Declares). unit_faults units (scope_of units e) u.name e ≡ []) is (unit_faultless units i u faultless at) in
      let parts = nothing_parts (specified_faults units s own) (when (is_misdeclared units permits.Types s own) (fault u.name.position rules.TypeMismatch)) clean in
      specified_fit units permits.Types s own parts.0 (kept_when (is_misdeclared units permits.Types s own) (fault u.name.position rules.TypeMismatch) parts.1)

  derived_data : (i : ℕ) (u : Named) (s : Specification) (own : Option Initial) → unit_at units i ≡ Some u → u.declares ≡ names.type (declared_types.Derived s own) → IsKnownAs units s × IsData (specified_base units s)
  derived_data i u s own at is = let fit = derived_fit i u s own at is in data_specified units order ordered faultless d s fit.none fit.fits

  -- what the unit of a number stands for as a type
  type_is : (i : ℕ) (u : Named) → unit_at units i ≡ Some u → type_at units i ≡ optional_stands_for (type_named units) i (unit_at units i)
  type_is i u at =
      All-contains (λ j. type_at units j ≡ optional_stands_for (type_named units) j (unit_at units j)) (take (length order) order) i
      (all_in_order units order ordered (λ placed j. type_at units j ≡ optional_stands_for (type_named units) j (unit_at units j)) (λ placed next j is. is) (λ place below all. unfolded units order ordered place below) (length order) (omega arith))
      (in_order units order ordered faultless d i u at)

  -- what a type that is declared as another one begins with fits it
  declared_fits : (i : ℕ) (u : Named) (s : Specification) (initial own : Option Initial) → unit_at units i ≡ Some u → u.declares ≡ names.type (declared_types.Derived s own) → is_unknown (type_at units i) ≡ false
      → (IsKnownAs units s → FitsAt units (shape_of units s) initial) → FitsAt units (plain (type_at units i)) initial
  unfolding shape_of
  declared_fits i u (specifications.Simple t) initial own at is there fits =
      let base = name_stands_for (type_named units) t in
      let type : type_at units i ≡ without_instance base = type_is i u at ∙ ap (optional_stands_for (type_named units) i) at ∙ ap (types.unit_stands_for (type_named units) i) is in
      let same : type_at units i ≡ base = type ∙ known_type base (sym (ap is_unknown type) ∙ there) in
      subst (λ (b : Base). FitsAt units (plain b) initial) (sym same) (fits (sym (ap is_unknown same) ∙ there))
  declared_fits i u (specifications.Array position ranges t) initial own at is there fits =
      let base = name_stands_for (type_named units) t in
      let type : type_at units i ≡ array_of i base = type_is i u at ∙ ap (optional_stands_for (type_named units) i) at ∙ ap (types.unit_stands_for (type_named units) i) is in
      let same : type_at units i ≡ bases.Array i = type ∙ known_array i base (sym (ap is_unknown type) ∙ there) in
      let known_data = (derived_data i u (specifications.Array position ranges t) own at is).1 in
      let found : elements_in units (bases.Array i) ≡ Some (record { subscripts = ranges; element = base }) = ap (optional_elements units) at ∙ ap (types.declared_elements units) is in
      subst (λ (b : Base). FitsAt units (plain b) initial) (sym same)
      (array_fits units i ranges base initial found (subst (λ (z : Shape). FitsAt units z initial) (array_shape_is ranges base known_data) (fits known_data)))

  -- ---- what types begin with

  -- where others begin with what fits them, so does a name
  name_fits : (f : ℕ → Option (Option Initial)) → ((j : ℕ) → is_unknown (type_at units j) ≡ false → FitsAt units (plain (type_at units j)) (known units (f j)))
      → (t : TypeName) → is_unknown (name_stands_for (type_named units) t) ≡ false → FitsAt units (plain (name_stands_for (type_named units) t)) (known units (name_initial units f t))
  unfolding type_named
  name_fits f each (type_names.Elementary position e) there = nothing_fits units (plain (bases.Elementary e))
  name_fits f each (type_names.Declared t) there = by (standard_of t.spelling) (number_of units t.spelling) there where
    by : (s : Option Standard) (n : Option ℕ) → is_unknown (stands_for (type_at units) s n) ≡ false → FitsAt units (plain (stands_for (type_at units) s n)) (known units (standing_initial f s n))
    by (Some s) n there = nothing_fits units (plain (stands_for (type_at units) (Some s) n))
    by None None there = nothing_fits units (plain (stands_for (type_at units) None None))
    by None (Some j) there = each j there

  type_fits : (n i : ℕ) → is_unknown (type_at units i) ≡ false → FitsAt units (plain (type_at units i)) (known units (initial_within units n i))
  unfolding initial_within
  type_fits zero i there = nothing_fits units (plain (type_at units i))
  type_fits (suc n) i there = by (λ j h. type_fits n j h) (unit_at units i) refl where
    declares_fit : ((j : ℕ) → is_unknown (type_at units j) ≡ false → FitsAt units (plain (type_at units j)) (known units (initial_within units n j))) → (u : Named) → unit_at units i ≡ Some u
        → (e : Declares) → u.declares ≡ e → FitsAt units (plain (type_at units i)) (known units (declares_initial units (initial_within units n) e))
    declares_fit each u at (names.type (declared_types.Derived s (Some x))) is =
        let fit = derived_fit i u s (Some x) at is in declared_fits i u s (Some x) (Some x) at is there (λ sure. (fit.begins, fit.valued))
    declares_fit each u at (names.type (declared_types.Derived (specifications.Simple t) None)) is =
        declared_fits i u (specifications.Simple t) (known units (name_initial units (initial_within units n) t)) None at is there (λ sure. simple_fits units t _ (name_fits (initial_within units n) each t sure))
    declares_fit each u at (names.type (declared_types.Derived (specifications.Array position ranges t) None)) is = nothing_fits units (plain (type_at units i))
    declares_fit each u at (names.type (declared_types.Structure position members)) is = nothing_fits units (plain (type_at units i))
    declares_fit each u at (names.function f) is = nothing_fits units (plain (type_at units i))
    declares_fit each u at (names.block b) is = nothing_fits units (plain (type_at units i))
    declares_fit each u at (names.program p) is = nothing_fits units (plain (type_at units i))

    by : ((j : ℕ) → is_unknown (type_at units j) ≡ false → FitsAt units (plain (type_at units j)) (known units (initial_within units n j))) → (o : Option Named) → unit_at units i ≡ o
        → FitsAt units (plain (type_at units i)) (known units (unit_initial units (initial_within units n) o))
    by each None at = nothing_fits units (plain (type_at units i))
    by each (Some u) at = declares_fit each u at u.declares refl

  named_fits : (t : TypeName) → is_unknown (name_stands_for (type_named units) t) ≡ false → FitsAt units (plain (name_stands_for (type_named units) t)) (initial_named units t)
  unfolding initial_at
  named_fits t there = name_fits (initial_at units) (λ j h. type_fits (suc (length units)) j h) t there

  -- ---- what is declared

  -- its own initial value fits it, or else that of its type
  initial_fits : (v : Declared) → IsKnownAs units v.specification → FitsAt units (shape_of units v.specification) v.initial → FitsAt units (shape_of units v.specification) (initial_of units v)
  initial_fits v sure fits = by v.initial fits where
    of_type : (s : Specification) → IsKnownAs units s → FitsAt units (shape_of units s) (known units (specified_initial units (initial_at units) s))
    of_type (specifications.Simple t) sure = simple_fits units t _ (named_fits t sure)
    of_type (specifications.Array position ranges t) sure = nothing_fits units (shape_of units (specifications.Array position ranges t))

    by : (o : Option Initial) → FitsAt units (shape_of units v.specification) o → FitsAt units (shape_of units v.specification) (known units (written_or (specified_initial units (initial_at units) v.specification) o))
    by (Some x) fits = fits
    by None fits = of_type v.specification sure

  -- the elements of a type are no instances
  elements_data : (i : ℕ) (es : Elements) → elements_in units (bases.Array i) ≡ Some es → is_instance es.element ≡ false
  elements_data i es found = by (unit_at units i) refl found where
    declared : (u : Named) → unit_at units i ≡ Some u → (e : Declares) → u.declares ≡ e → types.declared_elements units e ≡ Some es → is_instance es.element ≡ false
    declared u at (names.type (declared_types.Derived (specifications.Array position ranges t) own)) is h =
        let same : record { subscripts = ranges; element = name_stands_for (type_named units) t } ≡ es = cc in
        ap (λ (x : Elements). is_instance x.element) (sym same) ∙ (derived_data i u (specifications.Array position ranges t) own at is).1.plain
    declared u at (names.type (declared_types.Derived (specifications.Simple t) own)) is h = absurd (cc)
    declared u at (names.type (declared_types.Structure position members)) is h = absurd (cc)
    declared u at (names.function f) is h = absurd (cc)
    declared u at (names.block b) is h = absurd (cc)
    declared u at (names.program p) is h = absurd (cc)

    by : (o : Option Named) → unit_at units i ≡ o → optional_elements units o ≡ Some es → is_instance es.element ≡ false
    by None at h = absurd (cc)
    by (Some u) at h = declared u at u.declares refl h

  -- what has an array type
  type_array : (base : Base) → IsMadeOf (here units d) (plain base) (inside units base) → (es : Elements) → elements_of units (plain base) ≡ Some es → IsArrayOf units d (inside units base) es
  unfolding composition_within scope_of scopes.member_of
  type_array (bases.Array i) is es found =
      let element = started (unit_element_initial units (unit_at units i)) (composition_within units (length units) es.element) in
      let whole : inside units (bases.Array i) ≡ array es.subscripts [] element = ap (elements_composition (composition_within units (length units)) (unit_element_initial units (unit_at units i))) found in
      record {
        firsts = [];
        element = element;
        is = whole;
        is_made = subst (λ (z : Composition). IsMadeOf (here units d) (plain es.element) (composition_element z)) whole (made_elements (here units d) (plain (bases.Array i)) (inside units (bases.Array i)) is es found);
        no_instance = elements_data i es found;
      }
  type_array bases.Unknown is es found = absurd (cc)
  type_array (bases.Elementary e) is es found = absurd (cc)
  type_array (bases.Structure i) is es found = absurd (cc)
  type_array (bases.Block i) is es found = absurd (cc)
  type_array (bases.Standard b) is es found = absurd (cc)

  -- what is declared as an array
  own_array : (ranges : List Subrange) (own : Option Initial) (base : Base) → IsData base → IsMadeOf (here units d) (plain base) (inside units base)
      → (es : Elements) → Some (record { subscripts = ranges; element = base }) ≡ Some es → IsArrayOf units d (array ranges [] (started own (inside units base))) es
  own_array ranges own base is made_is es found =
      subst (IsArrayOf units d (array ranges [] (started own (inside units base)))) (let e : record { subscripts = ranges; element = base } ≡ es = cc in e)
      (record { firsts = []; element = started own (inside units base); is = refl; is_made = started_made (here units d) (plain base) (inside units base) own made_is; no_instance = is.plain })

  specified_array : (s : Specification) → IsKnownAs units s → (es : Elements) → elements_of units (shape_of units s) ≡ Some es → IsArrayOf units d (said units d None (element_initial units s) (shape_of units s)) es
  unfolding shape_of
  specified_array (specifications.Simple t) sure es found = type_array (name_stands_for (type_named units) t) (specified_good units order ordered faultless d (specifications.Simple t) sure) es found
  specified_array (specifications.Array position ranges t) is es found =
      let base = name_stands_for (type_named units) t in
      let own = element_initial units (specifications.Array position ranges t) in
      let same = array_shape_is ranges base is in
      subst (λ (z : Shape). IsArrayOf units d (said units d None own z) es) (sym same)
      (own_array ranges own base is (specified_good units order ordered faultless d (specifications.Array position ranges t) is.known) es (sym (ap (elements_of units) same) ∙ found))

  pub declared_begun : (v : Declared) → IsKnownAs units v.specification → FitsAt units (shape_of units v.specification) v.initial → IsBegunStrictly units v
  declared_begun v sure fits = record {
    found = declared_found units order ordered faultless d v;
    elements_found = λ position ranges t is. name_found units order ordered faultless d t;
    whole =
        begun_at units d (shape_of units v.specification) (specified_composition units (inside units) v) (initial_of units v)
        (said_made units d None (element_initial units v.specification) v.specification sure (λ h. specified_good units order ordered faultless d v.specification h))
        (specified_array v.specification sure) (initial_fits v sure fits);
    elements = of_elements v.specification sure;
  } where
    of_elements : (s : Specification) → IsKnownAs units s → IsBegun (element_initial units s) (inside units (shape_of units s).base) (started (element_initial units s) (inside units (shape_of units s).base))
    of_elements (specifications.Simple t) sure = strict.unwritten
    of_elements (specifications.Array position ranges t) is =
        let base = name_stands_for (type_named units) t in
        let initial = element_initial units (specifications.Array position ranges t) in
        let good = specified_good units order ordered faultless d (specifications.Array position ranges t) is.known in
        subst (λ (b : Base). IsBegun initial (inside units b) (started initial (inside units b))) (sym (array_base_is units position ranges t is))
        (begun_at units d (plain base) (inside units base) initial good (type_array base good) (named_fits t is.known))

-- ---- units

module _ (units : List Named) (order : List ℕ) (ordered : IsOrder (graph_of units) order) (faultless : node_faults units ≡ []) where
  variables_begun : (unit : Declares) (blocks : List VarBlock) → flat_map (block_faults units unit) blocks ≡ [] → Each (IsBegunStrictly units) (variables_of blocks)
  variables_begun unit blocks clean =
      each_weaker (VariableFits units unit) (IsBegunStrictly units) (variables_of blocks)
      (λ v fits. declared_begun units order ordered faultless unit v (variable_kind units order ordered faultless unit unit v fits).known (fits.begins, fits.valued)) (blocks_fit units unit blocks clean)

  members_begun : (unit : Declares) (members : List Declaration) → flat_map (declaration_faults units permits.Types) members ≡ [] → Each (IsBegunStrictly units) (members_of members)
  members_begun unit members clean =
      each_weaker (DeclaredFits units permits.Types) (IsBegunStrictly units) (members_of members)
      (λ v fits. declared_begun units order ordered faultless unit v (data_specified units order ordered faultless unit v.specification fits.none fits.fits).0 (fits.begins, fits.valued))
      (declarations_fit units permits.Types var_kinds.Internal members clean)

  unit_begun : (name : Identifier) (d : Declares) → unit_faults units (scope_of units d) name d ≡ [] → Each (IsBegunStrictly units) (all_declared d)
  unit_begun name (names.type (declared_types.Derived s initial)) clean = tt
  unit_begun name (names.type (declared_types.Structure position members)) clean =
      members_begun (names.type (declared_types.Structure position members)) members (nothing_parts (repeated [] (declared_names members)) (flat_map (declaration_faults units permits.Types) members) clean).1
  unit_begun name (names.function f) clean =
      let own = repeated (f.name.spelling ∷ []) (variable_names f.variables) in
      let blocks = flat_map (block_faults units (names.function f)) f.variables in
      variables_begun (names.function f) f.variables (nothing_parts own blocks (nothing_parts (own ++ blocks) (body_faults (scope_of units (names.function f)) f.statements) clean).0).1
  unit_begun name (names.block b) clean = variables_begun (names.block b) b.variables (pou_blocks units order ordered faultless (names.block b) (names.block b) b (scope_of units (names.block b)) clean)
  unit_begun name (names.program p) clean = variables_begun (names.program p) p.variables (pou_blocks units order ordered faultless (names.program p) (names.program p) p (scope_of units (names.program p)) clean)

pub initials_are_strict : InitialsAreStrict
initials_are_strict text order ordered i u at =
    unit_begun (units_of text) order ordered.ordered ordered.faultless u.name u.declares (unit_faultless (units_of text) i u ordered.faultless at)
