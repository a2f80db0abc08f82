-- In a text without faults each variable and each constant of a function is one value.
use Rattle.std.proofs.Common.{◌≡◌, ℕ, suc, arith, get_or, Bool, true, false, ◌||◌, if◌then◌else◌, List, [], ◌∷◌, ◌++◌, length, map, Option, Some, None, refl, ap, ◌∙◌, subst}
use Rattle.std.specs.List.{All, AllByRecursion as Each, Contains, flat_map}
use Rattle.std.proofs.lemmas.Bool.{and_parts}
use Rattle.std.proofs.lemmas.Grind.{flat_map-append}
use Rattle.std.proofs.lemmas.List.{get_or_default, length-map}
use Rattle.std.proofs.lemmas.List.Elements.{All-from_recursion}
use Rattle.st_values.specs.declared.elem.Elem.{Elem}
use Rattle.st_tree.specs.declared.tree.declaration.Declaration.{Declaration}
use Rattle.st_tree.specs.declared.tree.declaration.Initial.{Initial}
use Rattle.st_tree.specs.declared.tree.declaration.Initial.TheVariants as initials
use Rattle.st_tree.specs.declared.tree.declaration.Specification.{Specification}
use Rattle.st_tree.specs.declared.tree.declaration.Specification.TheVariants as specifications
use Rattle.st_tree.specs.declared.tree.declaration.Subrange.{Subrange}
use Rattle.st_tree.specs.declared.tree.declaration.VarBlock.{VarBlock}
use Rattle.st_tree.specs.declared.tree.declaration.VarKind.{VarKind}
use Rattle.st_tree.specs.declared.tree.position.Identifier.{Identifier}
use Rattle.st_tree.specs.declared.tree.unit.Function.{Function}
use Rattle.st_faults.specs.Faults.{fault, when}
use Rattle.st_faults.specs.declared.fault.Rule.TheVariants as rules
use Rattle.st_types.specs.Compositions.{Composition, elementary, composition_within, declared_composition, started, subscripted}
use Rattle.st_types.specs.Initials.{element_initial, initial_of, number_in, zero_of}
use Rattle.st_types.specs.Names.{Declared, Declares, Named, declared_in, named, unit_at, units_of, variables_of}
use Rattle.st_types.specs.Names as names
use Rattle.st_types.specs.Scopes.{Scope, scope_of}
use Rattle.st_types.specs.Types.{Shape, array_shape, is_unknown, is_value, name_stands_for, plain, shape_of, type_named, unknown, without_instance}
use Rattle.st_types.specs.declared.base.Base.{Base}
use Rattle.st_types.specs.declared.base.Base.TheVariants as bases
use Rattle.st_types.proofs.Units.{found_below}
use Rattle.st_references.specs.References.{contained, specified_names}
use Rattle.st_references.specs.References as references
use Rattle.st_references.proofs.Lists.{all_left, all_right}
use Rattle.st_leaves.proofs.Pairs.{each_append}
use Rattle.st_leaves.proofs.Wrapped.{wrapped_is_value}
use Rattle.st_leaves.proofs.Begins.{zero_is_value}
use Rattle.st_tree.specs.Kinds.{is_output}
use Rattle.st_check_units.specs.Declarations.{block_faults, declaration_faults, initial_faults, is_misdeclared, is_permitted, misdeclared_faults, permitted, specification_faults, specification_fits, specified_faults, type_faults}
use Rattle.st_check_units.specs.Repeats.{repeated}
use Rattle.st_check_units.specs.Subscripts.{subrange_faults}
use Rattle.st_check_units.specs.Units.{function_faults, variable_names}
use Rattle.st_check_units.specs.declared.permitted.Permitted.TheVariants as permits
use Rattle.st_check.specs.Laws.{CheckedHasElementaryFunctions, IsOneValue}
use Rattle.st_check.specs.Programs.{IsChecked, ProgramView, order_of, text_of}
use Rattle.st_check.proofs.Apart.{kept_when, nothing_parts}
use Rattle.st_check.proofs.DataTypes.{IsData, IsDataAt, data_in, name_data, specified_fits}
use Rattle.st_check.proofs.UnitsApart.{unit_faultless}

-- ---- one value

started_value : (e : Elem) (initial : Option Initial) → IsOneValue (started initial (elementary (zero_of e)))
started_value e None = record { value = zero_of e; is = refl; valid = zero_is_value e }
started_value e (Some (initials.Constant c)) = record { value = _; is = refl; valid = wrapped_is_value e (number_in c) }
started_value e (Some (initials.Array position items)) = record { value = zero_of e; is = refl; valid = zero_is_value e }

-- ---- what may be declared in a function

module _ (units : List Named) where
  -- what a declaration says of a name, by its type
  abbrev said : ℕ → Option Initial → Option Initial → Shape → Composition
  said most initial own shape = started initial (subscripted shape.subscripts (started own (composition_within units most shape.base)))

  plain_value : (more : ℕ) (initial : Option Initial) (base : Base) → IsData base → (is_unknown base || is_value (plain base)) ≡ true → IsOneValue (said (suc more) initial None (plain base))
  unfolding composition_within
  plain_value more initial bases.Unknown data' fits = absurd (let h = data'.known in cc)
  plain_value more initial (bases.Elementary e) data' fits = started_value e initial
  plain_value more initial (bases.Array i) data' fits = absurd cc
  plain_value more initial (bases.Structure i) data' fits = absurd cc
  plain_value more initial (bases.Block i) data' fits = absurd cc
  plain_value more initial (bases.Standard b) data' fits = absurd cc

  -- an array is no value
  no_array : (ranges : List Subrange) (base : Base) → IsData base → (is_unknown (array_shape ranges base).base || is_value (array_shape ranges base)) ≡ true → ⊥
  no_array ranges base data' fits = by (is_unknown base) data'.known refl where
    by : (b : Bool) → b ≡ false → is_unknown base ≡ b → ⊥
    by true e same = cc
    by false e same =
        let whole : without_instance base ≡ base = ap (λ b. if b then bases.Unknown else base) data'.plain in
        let shape : array_shape ranges base ≡ record { subscripts = Some ranges; base = base } = ap (λ b. if b then unknown else record { subscripts = Some ranges; base = base }) (ap is_unknown whole ∙ same) in
        let none : (is_unknown base || false) ≡ true = subst (λ (s : Shape). (is_unknown s.base || is_value s) ≡ true) shape fits in
        let last : (false || false) ≡ true = subst (λ b. (b || false) ≡ true) same none in
        cc

  -- no fault is found in what is specified, which may be a value
  pub record FitsValue (s : Specification) : Type 0 where
    pub none : specification_faults units s ≡ []
    pub fits : is_permitted permits.Values units s ≡ true

  specified_value : (more : ℕ) (initial own : Option Initial) (s : Specification) → element_initial units s ≡ own → FitsValue s → All (IsDataAt units) (flat_map (contained units) (specified_names s))
      → IsOneValue (said (suc more) initial (element_initial units s) (shape_of units s))
  unfolding shape_of
  specified_value more initial own (specifications.Simple t) same h all =
      let parts = and_parts (specification_fits units false (specifications.Simple t)) _ h.fits in
      plain_value more initial (name_stands_for (type_named units) t) (name_data units t h.none parts.0 all) parts.1
  specified_value more initial own (specifications.Array position ranges t) same h all =
      let parts = and_parts (specification_fits units false (specifications.Array position ranges t)) _ h.fits in
      let named = (nothing_parts (flat_map subrange_faults ranges) (type_faults units t) h.none).1 in
      absurd (no_array ranges (name_stands_for (type_named units) t) (name_data units t named parts.0 all) parts.1)

  declared_value : (more : ℕ) (v : Declared) → FitsValue v.specification → All (IsDataAt units) (flat_map (contained units) (specified_names v.specification))
      → IsOneValue (declared_composition units (composition_within units (suc more)) v)
  declared_value more v h all = specified_value more (initial_of units v) (element_initial units v.specification) v.specification refl h all

  -- ---- all variables of a function

  abbrev Fits : Declared → Type 0
  Fits v = FitsValue v.specification

  names_fit : (kind : VarKind) (d : Declaration) (wrong : Bool) (ns : List Identifier) → misdeclared_faults wrong ns ≡ [] → (wrong ≡ false → FitsValue d.specification)
      → Each Fits (map (λ n. record { name = n; kind = kind; specification = d.specification; initial = d.initial }) ns)
  names_fit kind d wrong [] none h = tt
  names_fit kind d wrong (n ∷ ns) none h =
      let parts = nothing_parts (when wrong (fault n.position rules.TypeMismatch)) (misdeclared_faults wrong ns) none in
      (h (kept_when wrong (fault n.position rules.TypeMismatch) parts.0), names_fit kind d wrong ns parts.1 h)

  module _ (f : Function) where
    -- functions have no outputs
    value_permitted : (kind : VarKind) (s : Specification) (initial : Option Initial) → is_misdeclared units (permitted (names.function f) kind) s initial ≡ false
        → is_permitted permits.Values units s ≡ true
    value_permitted kind s initial fits = by (is_output kind) (specified_fits units (permitted (names.function f) kind) s initial fits) where
      by : (b : Bool) → is_permitted (if b then permits.Nothing else permits.Values) units s ≡ true → is_permitted permits.Values units s ≡ true
      by true h = absurd cc
      by false h = h

    declaration_fits : (kind : VarKind) (d : Declaration) → declaration_faults units (permitted (names.function f) kind) d ≡ [] → Each Fits (declared_in kind d)
    declaration_fits kind d none =
        let p = permitted (names.function f) kind in
        let wrong = is_misdeclared units p d.specification d.initial in
        let parts = nothing_parts (specified_faults units d.specification d.initial) (misdeclared_faults wrong d.names) none in
        let own = nothing_parts (specification_faults units d.specification) (initial_faults units (shape_of units d.specification) d.initial) parts.0 in
        names_fit kind d wrong d.names parts.1 (λ right. record { none = own.0; fits = value_permitted kind d.specification d.initial right })

    declarations_fit : (kind : VarKind) (ds : List Declaration) → flat_map (declaration_faults units (permitted (names.function f) kind)) ds ≡ [] → Each Fits (flat_map (declared_in kind) ds)
    declarations_fit kind [] none = tt
    declarations_fit kind (d ∷ ds) none =
        let parts = nothing_parts (declaration_faults units (permitted (names.function f) kind) d) (flat_map (declaration_faults units (permitted (names.function f) kind)) ds) none in
        each_append Fits (declared_in kind d) (flat_map (declared_in kind) ds) (declaration_fits kind d parts.0) (declarations_fit kind ds parts.1)

    blocks_fit : (blocks : List VarBlock) → flat_map (block_faults units (names.function f)) blocks ≡ [] → Each Fits (variables_of blocks)
    blocks_fit [] none = tt
    blocks_fit (b ∷ bs) none =
        let parts = nothing_parts (block_faults units (names.function f) b) (flat_map (block_faults units (names.function f)) bs) none in
        each_append Fits (flat_map (declared_in b.kind) b.declarations) (variables_of bs) (declarations_fit b.kind b.declarations parts.0) (blocks_fit bs parts.1)

    pub function_fits : (scope : Scope) → function_faults units scope f ≡ [] → Each Fits (variables_of f.variables)
    function_fits scope none =
        let own = repeated (f.name.spelling ∷ []) (variable_names f.variables) in
        let blocks = flat_map (block_faults units (names.function f)) f.variables in
        blocks_fit f.variables (nothing_parts own blocks (nothing_parts (own ++ blocks) _ none).0).1

  pub variables_are_values : (more : ℕ) (vs : List Declared) → Each Fits vs → All (IsDataAt units) (flat_map (contained units) (flat_map references.declared_names vs))
      → Each (λ v. IsOneValue (declared_composition units (composition_within units (suc more)) v)) vs
  variables_are_values more [] fit all = tt
  variables_are_values more (v ∷ vs) fit all =
      let first = flat_map (contained units) (references.declared_names v) in
      let rest = flat_map (contained units) (flat_map references.declared_names vs) in
      let both : All (IsDataAt units) (first ++ rest) = subst (All (IsDataAt units)) (flat_map-append (contained units) (references.declared_names v) (flat_map references.declared_names vs)) all in
      (declared_value more v fit.0 (all_left (IsDataAt units) first rest both), variables_are_values more vs fit.1 (all_right (IsDataAt units) first rest both))

-- ---- of a checked program

module _ (program : ProgramView) (checked : IsChecked program) where
  abbrev units_in : List Named
  units_in = units_of (text_of program)

  abbrev AreValues : List Declared → Type 0
  AreValues vs = Each (λ v. IsOneValue (declared_composition units_in (composition_within units_in (suc (length units_in))) v)) vs

  own_variables : (i : ℕ) (name : Identifier) (f : Function) → unit_at units_in i ≡ Some (named name (names.function f)) → AreValues (variables_of f.variables)
  own_variables i name f at =
      let u = named name (names.function f) in
      let has : Contains (order_of program) i = checked.ordered.all i (omega (arith, length-map units_in (λ v. references.references units_in v.declares), found_below units_in i u at)) in
      let none = unit_faultless units_in i u checked.faultless at in
      let here : get_or (order_of program) has.0 0 ≡ i = get_or_default (order_of program) has.0 0 i has.1 ∙ has.2 in
      variables_are_values units_in (length units_in) (variables_of f.variables) (function_fits units_in f (scope_of units_in (names.function f)) none)
      (data_in units_in (order_of program) checked.ordered checked.faultless i u at has.0 has.1 here)

  elementary_variables : (i : ℕ) (name : Identifier) (d : Declares) (f : Function) → unit_at units_in i ≡ Some (named name d) → d ≡ names.function f
      → All (λ v. IsOneValue (declared_composition units_in (composition_within units_in (suc (length units_in))) v)) (variables_of f.variables)
  elementary_variables i name (names.function g) f at is =
      let same : g ≡ f = cc in
      All-from_recursion (λ v. IsOneValue (declared_composition units_in (composition_within units_in (suc (length units_in))) v)) (variables_of f.variables)
      (subst (λ h. AreValues (variables_of h.variables)) same (own_variables i name g at))
  elementary_variables i name (names.type t) f at is = absurd cc
  elementary_variables i name (names.block b) f at is = absurd cc
  elementary_variables i name (names.program p) f at is = absurd cc

pub elementary_functions : CheckedHasElementaryFunctions
elementary_functions program checked i unit f at is = elementary_variables program checked i unit.name unit.declares f at is
