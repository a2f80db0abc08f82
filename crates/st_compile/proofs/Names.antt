-- In a text without faults the names in the statements of a unit stand on both sides for the same.
use Rattle.std.proofs.Common.{◌≡◌, ℕ, Bool, true, false, ◌&&◌, ◌||◌, if◌then◌else◌, IsTrue, List, [], ◌∷◌, ◌++◌, map, Option, Some, None, is_some, refl, sym, ap, ◌∙◌, subst, append_assoc}
use Rattle.std.specs.List.{AllByRecursion as Each, flat_map, list_any}
use Rattle.std.specs.Option.{option_map}
use Rattle.std.proofs.lemmas.List.Folds.{list_any-append}
use Rattle.std.proofs.lemmas.List.{map-append}
use Rattle.st_values.specs.Words.{is_word}
use Rattle.st_values.specs.declared.elem.Elem.{Elem}
use Rattle.st_values.specs.declared.value.Value.{Value}
use Rattle.st_tree.specs.declared.tree.declaration.Initial.{Initial}
use Rattle.st_tree.specs.declared.tree.declaration.Initial.TheVariants as initials
use Rattle.st_tree.specs.declared.tree.declaration.Subrange.{Subrange}
use Rattle.st_tree.specs.declared.tree.declaration.VarKind.{VarKind}
use Rattle.st_tree.specs.declared.tree.declaration.VarKind.TheVariants as var_kinds
use Rattle.st_tree.specs.declared.tree.position.Identifier.{Identifier}
use Rattle.st_tree.specs.declared.tree.unit.Action.{Action}
use Rattle.st_tree.specs.declared.tree.unit.ChartElement.{ChartElement}
use Rattle.st_tree.specs.declared.tree.unit.ChartElement.TheVariants as chart_elements
use Rattle.st_tree.specs.declared.tree.unit.Function.{Function}
use Rattle.st_tree.specs.declared.tree.unit.Pou.{Pou}
use Rattle.st_tree.specs.declared.tree.unit.Step.{Step}
use Rattle.st_faults.specs.Faults.{fault, when}
use Rattle.st_faults.specs.declared.fault.Rule.TheVariants as rules
use Rattle.st_references.specs.Graphs.{IsOrder}
use Rattle.st_references.specs.References.{graph_of}
use Rattle.st_tree.specs.Kinds.{is_constant}
use Rattle.st_types.specs.Compositions.{Composition, unknown, elementary, array, composed, standard, composition_within, declared_composition, members_by, member, started, subscripted}
use Rattle.st_types.specs.Initials.{element_initial, initial_of, zero_of}
use Rattle.st_types.specs.Names.{Declared, Declares, Named, named, actions_in, chart_in, chart_of, declared_named, number_of, steps_in, steps_of, unit_at, unit_by, unit_named, variables_in, variables_of}
use Rattle.st_types.specs.Names as names
use Rattle.st_types.specs.Scopes.{Scope, callee_named, elem_due, global_callee, is_missing, must_be_value, optional_callee, purpose_of, scope_of, shape_due, signature_of, symbol, symbol_callee, symbol_of, unit_callee, variable_named, variable_of, variable_shape}
use Rattle.st_tree.specs.Kinds as kinds
use Rattle.st_types.specs.Scopes as scopes
use Rattle.st_types.specs.Standard.{standard_of}
use Rattle.st_types.specs.Types.{Shape, elem_of, is_unknown, is_value, plain, shape_of, type_at}
use Rattle.st_types.specs.Types as types
use Rattle.st_types.specs.declared.base.Base.{Base}
use Rattle.st_types.specs.declared.base.Base.TheVariants as bases
use Rattle.st_types.specs.declared.base.Purpose.TheVariants as purposes
use Rattle.st_types.specs.declared.standard.Standard.{Standard}
use Rattle.st_types.specs.declared.standard.Standard.TheVariants as standards
use Rattle.st_types.specs.declared.symbol.Callee.{Callee}
use Rattle.st_types.specs.declared.symbol.Due.TheVariants as dues
use Rattle.st_types.specs.declared.symbol.Symbol.{Symbol}
use Rattle.st_types.specs.declared.standard.StandardBlock.{StandardBlock}
use Rattle.st_leaves.proofs.Pairs.{Pairwise, each_parts}
use Rattle.st_leaves.specs.Selected.{member_selected, selected_by, value_type}
use Rattle.st_check_units.specs.Declarations.{block_faults}
use Rattle.st_check_units.specs.Repeats.{is_there, repeated, spellings}
use Rattle.st_check_units.specs.Units.{body_of_faults, chart_names, listed, node_faults, pou_faults, unit_faults, variable_names}
use Rattle.st_check_statements.specs.Statements.{body_faults}
use Rattle.st_check.proofs.Apart.{apart as apart_names, kept_when, neither, nothing_parts}
use Rattle.st_check.proofs.DistinctNames.{of_blocks}
use Rattle.st_check.proofs.UnitsApart.{unit_faultless}
use Rattle.st_meaning.specs.Steps.{chart_within}
use Rattle.st_meaning.specs.Terms.{whole, field_part}
use Rattle.st_meaning.specs.Units.{called_as, called_by, function_by, functions_in, input_in, inputs_in, instance_of, member_instance, members_of_function, unit_whole, with_input}
use Rattle.st_meaning.specs.Wholes.{Invoked, Whole, block_of, constant_among, constant_value, type_of}
use Rattle.st_places.proofs.Blocks.{IsDeclared, IsKnown, all_named, known_shape}
use Rattle.st_places.proofs.Instances.{AreFound, declared_instance, invocation, optional_invocation, shape_invocation}
use Rattle.st_places.proofs.Selections.{all_unfolded}
use Rattle.st_places.specs.Parts.{inside}
use Rattle.st_compile.specs.TypedPrograms.{has_body}
use Rattle.st_compile.specs.Ties.{AreInputs, IsCallee, IsInstance, IsMadeOf, IsOwn, IsStep, IsVariable, is_constant as constant_is, is_member as member_is, Ties}
use Rattle.st_compile.proofs.Types.{VariableFits, blocks_fit, declared_first, declared_variable, elementary_made, here, named_holds, placed_is, pou_blocks, variable_kind}
use Rattle.st_compile.proofs.Made.{made_known, made_members, made_value}
use Rattle.st_compile.proofs.Words.{words_meet}

-- ---- among declared names

undeclared : (units : List Named) (within : Base → Composition) (vs : List Declared) (name : List ℕ) → declared_named vs name ≡ None → member_selected (members_by units within vs) name ≡ unknown
undeclared units within [] name h = refl
undeclared units within (v ∷ vs) name h = by (is_word v.name.spelling name) refl h (undeclared units within vs name) where
  skip : (b : Bool) → is_word v.name.spelling name ≡ false → member_selected (members_by units within vs) name ≡ unknown
      → member_selected (if b then members_by units within vs else member v.name.spelling v.kind (declared_composition units within v) (members_by units within vs)) name ≡ unknown
  skip true word rest = rest
  skip false word rest = ap (λ (b : Bool). if b then declared_composition units within v else member_selected (members_by units within vs) name) word ∙ rest

  by : (b : Bool) → is_word v.name.spelling name ≡ b → (if b then Some v else declared_named vs name) ≡ None → (declared_named vs name ≡ None → member_selected (members_by units within vs) name ≡ unknown)
      → member_selected (members_by units within (v ∷ vs)) name ≡ unknown
  by true word h rest = absurd (cc)
  by false word h rest = skip (is_constant v.kind) word (rest h)

abbrev names_in : List Declared → List (List ℕ)
names_in vs = map (λ v. v.name.spelling) vs

-- none of these has the name
constant_nowhere : (within : Declared → Composition) (vs : List Declared) (other name : List ℕ) → Each (λ n. is_word other n ≡ false) (names_in vs) → is_word other name ≡ true → constant_among within vs name ≡ None
constant_nowhere within [] other name apart h = refl
constant_nowhere within (v ∷ vs) other name apart h = by (is_constant v.kind) (is_word v.name.spelling name) refl (constant_nowhere within vs other name apart.1 h) where
  by : (c w : Bool) → is_word v.name.spelling name ≡ w → constant_among within vs name ≡ None → (if c && w then constant_value (within v) else constant_among within vs name) ≡ None
  by true true q rest = absurd (let e : false ≡ true = sym apart.0 ∙ words_meet other v.name.spelling name h q in cc)
  by false true q rest = rest
  by true false q rest = rest
  by false false q rest = rest

-- a name that is first no constant's
no_constant : (within : Declared → Composition) (vs : List Declared) (name : List ℕ) (v : Declared) → Pairwise (λ a b. is_word a b ≡ false) (names_in vs) → declared_named vs name ≡ Some v → is_constant v.kind ≡ false
    → constant_among within vs name ≡ None
no_constant within [] name v apart h kind = cc
no_constant within (u ∷ vs) name v apart h kind = by (is_word u.name.spelling name) (is_constant u.kind) refl refl h (λ q. no_constant within vs name v apart.1 q kind) where
  by : (w c : Bool) → is_word u.name.spelling name ≡ w → is_constant u.kind ≡ c → (if w then Some u else declared_named vs name) ≡ Some v → (declared_named vs name ≡ Some v → constant_among within vs name ≡ None)
      → (if c && w then constant_value (within u) else constant_among within vs name) ≡ None
  by true true q k h rest = absurd (let same : u ≡ v = cc in let e : true ≡ false = sym k ∙ ap (λ (z : Declared). is_constant z.kind) same ∙ kind in cc)
  by true false q k h rest = constant_nowhere within vs u.name.spelling name apart.0 q
  by false true q k h rest = rest h
  by false false q k h rest = rest h

-- a name that is first a constant's
first_constant : (within : Declared → Composition) (vs : List Declared) (name : List ℕ) (v : Declared) → declared_named vs name ≡ Some v → is_constant v.kind ≡ true
    → constant_among within vs name ≡ constant_value (within v)
first_constant within [] name v h kind = cc
first_constant within (u ∷ vs) name v h kind = by (is_word u.name.spelling name) (is_constant u.kind) refl refl h (λ q. first_constant within vs name v q kind) where
  by : (w c : Bool) → is_word u.name.spelling name ≡ w → is_constant u.kind ≡ c → (if w then Some u else declared_named vs name) ≡ Some v
      → (declared_named vs name ≡ Some v → constant_among within vs name ≡ constant_value (within v)) → (if c && w then constant_value (within u) else constant_among within vs name) ≡ constant_value (within v)
  by true true q k h rest = ap (λ (z : Declared). constant_value (within z)) (let same : u ≡ v = cc in same)
  by true false q k h rest = absurd (let same : u ≡ v = cc in let e : false ≡ true = sym k ∙ ap (λ (z : Declared). is_constant z.kind) same ∙ kind in cc)
  by false true q k h rest = rest h
  by false false q k h rest = rest h

-- no constant has a name that nothing has
constant_undeclared : (within : Declared → Composition) (vs : List Declared) (name : List ℕ) → declared_named vs name ≡ None → constant_among within vs name ≡ None
constant_undeclared within [] name h = refl
constant_undeclared within (v ∷ vs) name h = by (is_word v.name.spelling name) (is_constant v.kind) h (constant_undeclared within vs name) where
  by : (w c : Bool) → (if w then Some v else declared_named vs name) ≡ None → (declared_named vs name ≡ None → constant_among within vs name ≡ None)
      → (if c && w then constant_value (within v) else constant_among within vs name) ≡ None
  by true c h rest = absurd (cc)
  by false true h rest = rest h
  by false false h rest = rest h

-- ---- one value

plain_of : (s : Shape) (e : Elem) → elem_of s ≡ Some e → s ≡ plain (bases.Elementary e)
plain_of s e h = by s.subscripts s.base h where
  by : (r : Option (List Subrange)) (b : Base) → types.elem_by r b ≡ Some e → record { subscripts = r; base = b } ≡ plain (bases.Elementary e)
  by None (bases.Elementary t) h = ap (λ (x : Elem). plain (bases.Elementary x)) (let q : t ≡ e = cc in q)
  by None bases.Unknown h = absurd (cc)
  by None (bases.Array i) h = absurd (cc)
  by None (bases.Structure i) h = absurd (cc)
  by None (bases.Block i) h = absurd (cc)
  by None (bases.Standard b) h = absurd (cc)
  by (Some ranges) b h = absurd (cc)

pub one_value : (c : Composition) (e : Elem) → value_type c ≡ Some e → (v : Value) × (c ≡ elementary v) × (v.elem ≡ e)
one_value (elementary v) e h = (v, refl, let q : v.elem ≡ e = cc in q)
one_value unknown e h = cc
one_value (array ranges firsts c) e h = cc
one_value (composed name ms chart) e h = cc
one_value (standard b) e h = cc

some_elem : (s : Shape) → is_value s ≡ true → (e : Elem) × (elem_of s ≡ Some e)
some_elem s h = by (elem_of s) refl h where
  by : (o : Option Elem) → elem_of s ≡ o → is_some o ≡ true → (e : Elem) × (elem_of s ≡ Some e)
  by (Some e) q h = (e, q)
  by None q h = absurd (cc)

constant_purpose : (kind : VarKind) → is_constant kind ≡ true → purpose_of kind ≡ purposes.Constant
constant_purpose var_kinds.Constant h = refl
constant_purpose var_kinds.Internal h = cc
constant_purpose var_kinds.Input h = cc
constant_purpose var_kinds.Output h = cc

constant_value_must : (unit : Declares) (kind : VarKind) → is_constant kind ≡ true → must_be_value unit kind ≡ true
constant_value_must (names.function f) kind h = refl
constant_value_must (names.type t) var_kinds.Constant h = refl
constant_value_must (names.block b) var_kinds.Constant h = refl
constant_value_must (names.program p) var_kinds.Constant h = refl
constant_value_must (names.type t) var_kinds.Internal h = cc
constant_value_must (names.block b) var_kinds.Internal h = cc
constant_value_must (names.program p) var_kinds.Internal h = cc
constant_value_must (names.type t) var_kinds.Input h = cc
constant_value_must (names.block b) var_kinds.Input h = cc
constant_value_must (names.program p) var_kinds.Input h = cc
constant_value_must (names.type t) var_kinds.Output h = cc
constant_value_must (names.block b) var_kinds.Output h = cc
constant_value_must (names.program p) var_kinds.Output h = cc

module _ (units : List Named) (order : List ℕ) (ordered : IsOrder (graph_of units) order) (faultless : node_faults units ≡ []) (d : Declares) where
  -- a declared name of a unit with these names
  declared_is : (w : Whole) (vs : List Declared) → Each (VariableFits units d) vs → Pairwise (λ a b. is_word a b ≡ false) (names_in vs)
      → (name : List ℕ) (v : Declared) → declared_named vs name ≡ Some v → w.constants name ≡ constant_among (declared_composition units (inside units)) vs name
      → selected_by w.variables name ≡ member_selected (members_by units (inside units) vs) name → IsVariable (here units d) w name (symbol_of units d v)
  declared_is w vs fits apart name v q constants selected = by (is_constant v.kind) refl where
    fits_v : VariableFits units d v
    fits_v = named_holds (VariableFits units d) vs name v fits q

    is_made : IsMadeOf (here units d) (variable_shape units d v) (declared_composition units (inside units) v)
    is_made = declared_variable units order ordered faultless d d v fits_v

    by : (b : Bool) → is_constant v.kind ≡ b → IsVariable (here units d) w name (symbol_of units d v)
    by true k =
        let value = (variable_kind units order ordered faultless d d v fits_v).value (constant_value_must d v.kind k) in
        let shape = placed_is units order ordered faultless d d v fits_v in
        let e = some_elem (variable_shape units d v) (ap is_value shape ∙ value) in
        let x = one_value (declared_composition units (inside units) v) e.0 (made_value (here units d) (variable_shape units d v) (declared_composition units (inside units) v) is_made e.0 e.1) in
        constant_is x.0 (constant_purpose v.kind k) (constants ∙ first_constant (declared_composition units (inside units)) vs name v q k ∙ ap constant_value x.1)
        (plain_of (variable_shape units d v) e.0 e.1 ∙ ap (λ (t : Elem). plain (bases.Elementary t)) (sym x.2))
    by false k =
        member_is (constants ∙ no_constant (declared_composition units (inside units)) vs name v apart q k)
        (subst (IsMadeOf (here units d) (variable_shape units d v)) (sym (selected ∙ declared_first units (inside units) vs name v q k)) is_made)

  -- ---- functions of the text

  function_variables : (j : ℕ) (u : Named) (f : Function) → unit_at units j ≡ Some u → u.declares ≡ names.function f → Each (VariableFits units (names.function f)) (variables_of f.variables)
  function_variables j u f at is =
      let unit = names.function f in
      let clean = subst (λ (e : Declares). unit_faults units (scope_of units e) u.name e ≡ []) is (unit_faultless units j u faultless at) in
      let own = repeated (f.name.spelling ∷ []) (variable_names f.variables) in
      let blocks = flat_map (block_faults units unit) f.variables in
      blocks_fit units unit f.variables (nothing_parts own blocks (nothing_parts (own ++ blocks) (body_faults (scope_of units unit) f.statements) clean).0).1

  value_due : (s : Shape) (e : Elem) → is_unknown s.base ≡ false → elem_of s ≡ Some e → shape_due s ≡ dues.Type e
  value_due s e known own =
      ap (λ (b : Bool). if b then dues.Any else if is_value s then elem_due (elem_of s) else dues.NoValue) known ∙ ap (λ (o : Option Elem). if is_some o then elem_due o else dues.NoValue) own

  inputs_alike : (f : Function) (vs : List Declared) → Each (VariableFits units (names.function f)) vs → AreInputs (flat_map (scopes.input_of units (names.function f)) vs) (inputs_in (members_by units (inside units) vs))
  inputs_alike f [] fits = tt
  inputs_alike f (v ∷ vs) fits = by v.kind (inputs_alike f vs fits.1) where
    unit : Declares
    unit = names.function f

    shape : Shape
    shape = variable_shape units (names.function f) v

    c : Composition
    c = declared_composition units (inside units) v

    made_is : IsMadeOf (here units d) (variable_shape units (names.function f) v) (declared_composition units (inside units) v)
    made_is = declared_variable units order ordered faultless d (names.function f) v fits.0

    elem : (e : Elem) × (elem_of (variable_shape units (names.function f) v) ≡ Some e)
    elem = some_elem (variable_shape units (names.function f) v) (ap is_value (placed_is units order ordered faultless d (names.function f) v fits.0) ∙ (variable_kind units order ordered faultless d (names.function f) v fits.0).value refl)

    one : (x : Value) × (declared_composition units (inside units) v ≡ elementary x) × (x.elem ≡ elem.0)
    one = one_value (declared_composition units (inside units) v) elem.0 (made_value (here units d) (variable_shape units (names.function f) v) (declared_composition units (inside units) v) made_is elem.0 elem.1)

    by : (kind : VarKind) → AreInputs (flat_map (scopes.input_of units (names.function f)) vs) (inputs_in (members_by units (inside units) vs))
        → AreInputs ((if kinds.is_input kind then record { name = v.name.spelling; due = shape_due (variable_shape units (names.function f) v) } ∷ [] else []) ++ flat_map (scopes.input_of units (names.function f)) vs)
        (inputs_in (if is_constant kind then members_by units (inside units) vs else member v.name.spelling kind (declared_composition units (inside units) v) (members_by units (inside units) vs)))
    by var_kinds.Input rest =
        let x = one in
        let known = made_known (here units d) (variable_shape units (names.function f) v) (declared_composition units (inside units) v) made_is in
        let due = value_due (variable_shape units (names.function f) v) elem.0 known elem.1 ∙ ap (λ (e : Elem). dues.Type e) (sym x.2) in
        subst (λ (z : Composition). AreInputs (record { name = v.name.spelling; due = shape_due (variable_shape units (names.function f) v) } ∷ flat_map (scopes.input_of units (names.function f)) vs)
        (with_input (input_in v.name.spelling var_kinds.Input z) (inputs_in (members_by units (inside units) vs)))) (sym x.1) (refl, due, rest)
    by var_kinds.Constant rest = rest
    by var_kinds.Internal rest = rest
    by var_kinds.Output rest = rest

  function_own : (w : Whole) (name : List ℕ) (j : ℕ) (u : Named) (f : Function) → standard_of name ≡ None → number_of units name ≡ Some j → unit_at units j ≡ Some u → u.declares ≡ names.function f
      → w.functions name ≡ functions_in units name → IsOwn w name (signature_of units f)
  function_own w name j u f free number at is same = record {
    function = record { number = j; result = f.result; inputs = inputs_in (members_of_function units f) };
    no_standard = free;
    known = same ∙ ap (function_by units) number ∙ ap (called_by units j) at ∙ ap (called_as units j) is;
    result = refl;
    inputs = inputs_alike f (variables_of f.variables) (function_variables j u f at is);
  }

  -- ---- what is called

  global_is : (w : Whole) (name : List ℕ) → w.functions name ≡ functions_in units name → IsCallee (here units d) w name (global_callee units name (standard_of name))
  global_is w name same = by (standard_of name) refl where
    unit_is : (j : ℕ) (u : Named) → standard_of name ≡ None → number_of units name ≡ Some j → unit_at units j ≡ Some u → (e : Declares) → u.declares ≡ e → IsCallee (here units d) w name (unit_callee units e)
    unit_is j u free number at (names.function f) q = function_own w name j u f free number at q same
    unit_is j u free number at (names.block b) q = tt
    unit_is j u free number at (names.type t) q = tt
    unit_is j u free number at (names.program p) q = tt

    at_is : (j : ℕ) (o : Option Named) → standard_of name ≡ None → number_of units name ≡ Some j → unit_at units j ≡ o → IsCallee (here units d) w name (optional_callee units o)
    at_is j None free number at = tt
    at_is j (Some u) free number at = unit_is j u free number at u.declares refl

    number_is : (o : Option ℕ) → standard_of name ≡ None → number_of units name ≡ o → IsCallee (here units d) w name (optional_callee units (unit_by units o))
    number_is None free number = tt
    number_is (Some j) free number = at_is j (unit_at units j) free number refl

    by : (s : Option Standard) → standard_of name ≡ s → IsCallee (here units d) w name (global_callee units name s)
    by (Some (standards.Function f)) q = q
    by (Some (standards.Conversion x y)) q = q
    by (Some (standards.Block b)) q = tt
    by None q = number_is (number_of units name) q refl

  -- the variables of a whole, and its instances, are known
  record Knows (w : Whole) : Type 0 where
    pub variable : (name : List ℕ) (s : Symbol) → variable_named units d name ≡ Some s → IsVariable (here units d) w name s
    pub step : (name : List ℕ) → variable_named units d name ≡ None → names.is_step d name ≡ true → IsStep w name
    pub action : (name : List ℕ) → names.is_action d name ≡ true → type_of w.variables (field_part name whole) ≡ None
    pub instance : (name : List ℕ) (s : Symbol) (base : Base) → variable_named units d name ≡ Some s → s.shape ≡ plain base → types.is_instance base ≡ true
        → IsTrue (is_some (block_of (selected_by w.variables name)) || is_some (w.invoked name))
    pub functions : (name : List ℕ) → w.functions name ≡ functions_in units name

  variable_known : (w : Whole) (name : List ℕ) (s : Symbol) → IsVariable (here units d) w name s → is_unknown s.shape.base ≡ false
  variable_known w name s (constant_is x purpose is shape) = ap (λ (z : Shape). is_unknown z.base) shape
  variable_known w name s (member_is empty is) = made_known (here units d) s.shape (selected_by w.variables name) is

  pins_made : (w : Whole) (name : List ℕ) (s : Symbol) (base : Base) → IsVariable (here units d) w name s → s.shape ≡ plain base → types.is_instance base ≡ true
      → (pin : List ℕ) (other : Symbol) → ((here units d).member base pin).symbol ≡ Some other → IsMadeOf (here units d) other.shape (selected_by (selected_by w.variables name) pin)
  pins_made w name s base (constant_is x purpose is shape) same is_one pin other h =
      let e : plain (bases.Elementary x.elem) ≡ plain base = sym shape ∙ same in
      absurd (let q : false ≡ true = ap (λ (z : Shape). types.is_instance z.base) e ∙ is_one in cc)
  pins_made w name s base (member_is empty is) same is_one pin other h =
      made_members (here units d) (plain base) (selected_by w.variables name) (subst (λ (z : Shape). IsMadeOf (here units d) z (selected_by w.variables name)) same is) pin other h

  callee_is : (w : Whole) → Knows w → (name : List ℕ) → IsCallee (here units d) w name (callee_named units d name)
  unfolding callee_named
  callee_is w knows name = by (variable_named units d name) refl where
    other : Callee
    other = global_callee units name (standard_of name)

    is_other : IsCallee (here units d) w name (global_callee units name (standard_of name))
    is_other = global_is w name (knows.functions name)

    instance_is : (s : Symbol) (base : Base) → variable_named units d name ≡ Some s → s.shape ≡ plain base → types.is_instance base ≡ true → IsInstance (here units d) w name base
    instance_is s base q same is_one = record { known = knows.instance name s base q same is_one; pins = pins_made w name s base (knows.variable name s q) same is_one }

    found : (s : Symbol) → variable_named units d name ≡ Some s → (r : Option (List Subrange)) (b : Base) → s.shape ≡ record { subscripts = r; base = b }
        → IsCallee (here units d) w name (scopes.shape_callee (global_callee units name (standard_of name)) r b)
    found s q (Some ranges) b same = is_other
    found s q None bases.Unknown same = absurd (let e : true ≡ false = sym (ap (λ (z : Shape). is_unknown z.base) same) ∙ variable_known w name s (knows.variable name s q) in cc)
    found s q None (bases.Elementary e) same = is_other
    found s q None (bases.Array i) same = is_other
    found s q None (bases.Structure i) same = is_other
    found s q None (bases.Block i) same = instance_is s (bases.Block i) q same refl
    found s q None (bases.Standard b) same = instance_is s (bases.Standard b) q same refl

    by : (o : Option Symbol) → variable_named units d name ≡ o → IsCallee (here units d) w name (symbol_callee (global_callee units name (standard_of name)) o)
    by None q = is_other
    by (Some s) q = found s q s.shape.subscripts s.shape.base refl

  ties_with : (w : Whole) → Knows w → Ties (here units d) w
  unfolding scope_of scopes.member_of
  ties_with w knows = record {
    variable = knows.variable;
    step = knows.step;
    action = knows.action;
    callee = callee_is w knows;
    no_members = λ e name. refl;
    no_elements = λ e. refl;
  }

-- ---- the names of a unit are apart

pairwise_left : (xs ys : List (List ℕ)) → Pairwise (λ a b. is_word a b ≡ false) (xs ++ ys) → Pairwise (λ a b. is_word a b ≡ false) xs
pairwise_left [] ys h = tt
pairwise_left (x ∷ xs) ys h = ((each_parts (λ b. is_word x b ≡ false) xs ys h.0).0, pairwise_left xs ys h.1)

new_names : (first more : List (List ℕ)) (ns : List Identifier) → repeated (first ++ more) ns ≡ [] → Each (λ n. is_there first n ≡ false) (spellings ns)
new_names first more [] h = tt
new_names first more (n ∷ ns) h =
    let parts = nothing_parts (when (is_there (first ++ more) n.spelling) (fault n.position rules.NameTwice)) (repeated ((first ++ more) ++ n.spelling ∷ []) ns) h in
    let none_is = kept_when (is_there (first ++ more) n.spelling) (fault n.position rules.NameTwice) parts.0 in
    let both_none = neither (is_there first n.spelling) (is_there more n.spelling) (sym (list_any-append (λ other. is_word other n.spelling) first more) ∙ none_is) in
    let rest : repeated (first ++ (more ++ n.spelling ∷ [])) ns ≡ [] = rw append_assoc at parts.1 in
    (both_none.0, new_names first (more ++ n.spelling ∷ []) ns rest)

-- the names of one list are apart from those of the other
pairwise_cross : (xs ys : List (List ℕ)) → Pairwise (λ a b. is_word a b ≡ false) (xs ++ ys) → Each (λ x. Each (λ y. is_word x y ≡ false) ys) xs
pairwise_cross [] ys h = tt
pairwise_cross (x ∷ xs) ys h = ((each_parts (λ b. is_word x b ≡ false) xs ys h.0).1, pairwise_cross xs ys h.1)

-- ---- no variable has the name of an action

abbrev action_among : List ℕ → List ChartElement → Bool
action_among name elements = list_any (λ (i : Identifier). is_word i.spelling name) (map (λ (a : Action). a.name) (flat_map actions_in elements))

abbrev IsApartFrom : List ChartElement → List ℕ → Type 0
IsApartFrom elements x = Each (λ y. is_word x y ≡ false) (spellings (chart_names elements))

no_action_named : (x name : List ℕ) → is_word x name ≡ true → (elements : List ChartElement) → IsApartFrom elements x → action_among name elements ≡ false
no_action_named x name same [] h = refl
no_action_named x name same (chart_elements.Step s ∷ es) h = no_action_named x name same es h.1
no_action_named x name same (chart_elements.Transition t ∷ es) h = by t.name h (λ rest. no_action_named x name same es rest) where
  by : (o : Option Identifier) → Each (λ y. is_word x y ≡ false) (spellings (listed o ++ chart_names es)) → (IsApartFrom es x → action_among name es ≡ false) → action_among name es ≡ false
  by None h rest = rest h
  by (Some n) h rest = rest h.1
no_action_named x name same (chart_elements.Action a ∷ es) h = by (is_word a.name.spelling name) refl (no_action_named x name same es h.1) where
  by : (b : Bool) → is_word a.name.spelling name ≡ b → action_among name es ≡ false → (b || action_among name es) ≡ false
  by true q rest = absurd (let e : true ≡ false = sym (words_meet x a.name.spelling name same q) ∙ h.0 in cc)
  by false q rest = rest

undeclared_action : (name : List ℕ) (elements : List ChartElement) → action_among name elements ≡ true → (vs : List Declared) → Each (IsApartFrom elements) (names_in vs) → declared_named vs name ≡ None
undeclared_action name elements is [] h = refl
undeclared_action name elements is (v ∷ vs) h = by (is_word v.name.spelling name) refl (undeclared_action name elements is vs h.1) where
  by : (b : Bool) → is_word v.name.spelling name ≡ b → declared_named vs name ≡ None → (if b then Some v else declared_named vs name) ≡ None
  by true q rest = absurd (let e : true ≡ false = sym is ∙ no_action_named v.name.spelling name q elements h.0 in cc)
  by false q rest = rest

-- ---- instances

started_block : (initial : Option Initial) (b : StandardBlock) → started initial (standard b) ≡ standard b
started_block None b = refl
started_block (Some (initials.Constant k)) b = refl
started_block (Some (initials.Array position items)) b = refl

steps_alike : (name : List ℕ) (ss : List Step) → list_any (λ (i : Identifier). is_word i.spelling name) (map (λ (s : Step). s.name) ss) ≡ true → list_any (λ (s : Step). is_word s.name.spelling name) ss ≡ true
steps_alike name [] h = h
steps_alike name (s ∷ ss) h = by (is_word s.name.spelling name) h (steps_alike name ss) where
  by : (b : Bool) → (b || list_any (λ (i : Identifier). is_word i.spelling name) (map (λ (s : Step). s.name) ss)) ≡ true
      → (list_any (λ (i : Identifier). is_word i.spelling name) (map (λ (s : Step). s.name) ss) ≡ true → list_any (λ (s : Step). is_word s.name.spelling name) ss ≡ true)
      → (b || list_any (λ (s : Step). is_word s.name.spelling name) ss) ≡ true
  by true h rest = refl
  by false h rest = rest h

instance_first : (units : List Named) (vs : List Declared) (name : List ℕ) (v : Declared) → declared_named vs name ≡ Some v → is_constant v.kind ≡ false
    → member_instance units (members_by units (inside units) vs) name ≡ instance_of units (declared_composition units (inside units) v)
instance_first units [] name v h kind = cc
instance_first units (u ∷ vs) name v h kind = by (is_word u.name.spelling name) refl h (λ q. instance_first units vs name v q kind) where
  at : (b : Bool) → is_constant u.kind ≡ b → u ≡ v → is_word u.name.spelling name ≡ true
      → member_instance units (if b then members_by units (inside units) vs else member u.name.spelling u.kind (declared_composition units (inside units) u) (members_by units (inside units) vs)) name ≡ instance_of units (declared_composition units (inside units) v)
  at true q same word = absurd (let e : true ≡ false = sym q ∙ ap (λ (z : Declared). is_constant z.kind) same ∙ kind in cc)
  at false q same word =
      ap (λ (b : Bool). if b then instance_of units (declared_composition units (inside units) u) else member_instance units (members_by units (inside units) vs) name) word
      ∙ ap (λ (z : Declared). instance_of units (declared_composition units (inside units) z)) same

  past : (b : Bool) → is_word u.name.spelling name ≡ false → member_instance units (members_by units (inside units) vs) name ≡ instance_of units (declared_composition units (inside units) v)
      → member_instance units (if b then members_by units (inside units) vs else member u.name.spelling u.kind (declared_composition units (inside units) u) (members_by units (inside units) vs)) name ≡ instance_of units (declared_composition units (inside units) v)
  past true word rest = rest
  past false word rest = ap (λ (b : Bool). if b then instance_of units (declared_composition units (inside units) u) else member_instance units (members_by units (inside units) vs) name) word ∙ rest

  by : (b : Bool) → is_word u.name.spelling name ≡ b → (if b then Some u else declared_named vs name) ≡ Some v
      → (declared_named vs name ≡ Some v → member_instance units (members_by units (inside units) vs) name ≡ instance_of units (declared_composition units (inside units) v))
      → member_instance units (members_by units (inside units) (u ∷ vs)) name ≡ instance_of units (declared_composition units (inside units) v)
  by true word h rest = at (is_constant u.kind) refl (let e : u ≡ v = cc in e) word
  by false word h rest = past (is_constant u.kind) word (rest h)

-- a value is no instance
no_value : (base : Base) → is_value (plain base) ≡ true → types.is_instance base ≡ true → ⊥
no_value bases.Unknown h k = cc
no_value (bases.Elementary e) h k = cc
no_value (bases.Array i) h k = cc
no_value (bases.Structure i) h k = cc
no_value (bases.Block i) h k = cc
no_value (bases.Standard b) h k = cc

module _ (units : List Named) (order : List ℕ) (ordered : IsOrder (graph_of units) order) (faultless : node_faults units ≡ []) where
  are_found : AreFound units
  are_found = record { named = all_named units faultless; unfolded = all_unfolded units order ordered }

  -- what a name invokes that is an instance
  block_known : (j : ℕ) → IsDeclared units j true → is_some (optional_invocation units j (unit_at units j)) ≡ true
  block_known j is =
      ap (λ (o : Option Named). is_some (optional_invocation units j o)) is.at ∙ ap (λ (b : Bool). is_some (if b then Some (invocation units j is.unit) else None)) is.is

  composition_instance : (v : Declared) (base : Base) → shape_of units v.specification ≡ plain base → types.is_instance base ≡ true
      → (is_some (block_of (declared_composition units (inside units) v)) || is_some (instance_of units (declared_composition units (inside units) v))) ≡ true
  unfolding composition_within
  composition_instance v (bases.Standard b) same is_one =
      let whole : declared_composition units (inside units) v ≡ standard b =
      ap (λ (s : Shape). started (initial_of units v) (subscripted s.subscripts (started (element_initial units v.specification) (inside units s.base)))) same
      ∙ ap (started (initial_of units v)) (started_block (element_initial units v.specification) b) ∙ started_block (initial_of units v) b in
      ap (λ (c : Composition). is_some (block_of c) || is_some (instance_of units c)) whole
  composition_instance v (bases.Block j) same is_one =
      let known : IsDeclared units j true = subst (λ (s : Shape). IsKnown units s.base) same (known_shape units v.specification) in
      let invoked_is = declared_instance units are_found v ∙ ap (λ (s : Shape). shape_invocation units s.subscripts s.base) same in
      let some = ap is_some invoked_is ∙ block_known j known in
      or_right (is_some (block_of (declared_composition units (inside units) v))) (is_some (instance_of units (declared_composition units (inside units) v))) some where
        or_right : (a b : Bool) → b ≡ true → (a || b) ≡ true
        or_right true b h = refl
        or_right false b h = h
  composition_instance v bases.Unknown same is_one = absurd (cc)
  composition_instance v (bases.Elementary e) same is_one = absurd (cc)
  composition_instance v (bases.Array i) same is_one = absurd (cc)
  composition_instance v (bases.Structure i) same is_one = absurd (cc)

  -- ---- the variables of a function block or a program

  module _ (d : Declares) (w : Whole) (vs : List Declared) (fits : Each (VariableFits units d) vs) (apart : Pairwise (λ a b. is_word a b ≡ false) (names_in vs))
      (constants : (name : List ℕ) → w.constants name ≡ constant_among (declared_composition units (inside units)) vs name) where
    variable_among : (name : List ℕ) (s : Symbol) → option_map (symbol_of units d) (declared_named vs name) ≡ Some s → selected_by w.variables name ≡ member_selected (members_by units (inside units) vs) name
        → IsVariable (here units d) w name s
    variable_among name s h selected = by (declared_named vs name) refl h where
      by : (o : Option Declared) → declared_named vs name ≡ o → option_map (symbol_of units d) o ≡ Some s → IsVariable (here units d) w name s
      by None q h = absurd (cc)
      by (Some v) q h = subst (IsVariable (here units d) w name) (let e : symbol_of units d v ≡ s = cc in e) (declared_is units order ordered faultless d w vs fits apart name v q (constants name) selected)

    none_among : (name : List ℕ) → option_map (symbol_of units d) (declared_named vs name) ≡ None → declared_named vs name ≡ None
    none_among name h = by (declared_named vs name) h where
      by : (o : Option Declared) → option_map (symbol_of units d) o ≡ None → o ≡ None
      by None h = refl
      by (Some v) h = absurd (cc)

    instance_among : (name : List ℕ) (s : Symbol) (base : Base) → option_map (symbol_of units d) (declared_named vs name) ≡ Some s → s.shape ≡ plain base → types.is_instance base ≡ true
        → selected_by w.variables name ≡ member_selected (members_by units (inside units) vs) name → w.invoked name ≡ member_instance units (members_by units (inside units) vs) name
        → IsTrue (is_some (block_of (selected_by w.variables name)) || is_some (w.invoked name))
    instance_among name s base h same is_one selected invoked = by (declared_named vs name) refl h where
      kinds : (v : Declared) → declared_named vs name ≡ Some v → symbol_of units d v ≡ s → (b : Bool) → is_constant v.kind ≡ b → IsTrue (is_some (block_of (selected_by w.variables name)) || is_some (w.invoked name))
      kinds v q e true k =
          let fits_v = named_holds (VariableFits units d) vs name v fits q in
          let placed = placed_is units order ordered faultless d d v fits_v in
          let value = (variable_kind units order ordered faultless d d v fits_v).value (constant_value_must d v.kind k) in
          let shape : shape_of units v.specification ≡ plain base = sym placed ∙ ap (λ (z : Symbol). z.shape) e ∙ same in
          absurd (no_value base (sym (ap is_value shape) ∙ value) is_one)
      kinds v q e false k =
          let fits_v = named_holds (VariableFits units d) vs name v fits q in
          let placed = placed_is units order ordered faultless d d v fits_v in
          let shape : shape_of units v.specification ≡ plain base = sym placed ∙ ap (λ (z : Symbol). z.shape) e ∙ same in
          let there = composition_instance v base shape is_one in
          let first = selected ∙ declared_first units (inside units) vs name v q k in
          let second = invoked ∙ instance_first units vs name v q k in
          ap (λ (c : Composition). is_some (block_of c) || is_some (w.invoked name)) first
          ∙ ap (λ (o : Option Invoked). is_some (block_of (declared_composition units (inside units) v)) || is_some o) second ∙ there

      by : (o : Option Declared) → declared_named vs name ≡ o → option_map (symbol_of units d) o ≡ Some s → IsTrue (is_some (block_of (selected_by w.variables name)) || is_some (w.invoked name))
      by None q h = absurd (cc)
      by (Some v) q h = kinds v q (let e : symbol_of units d v ≡ s = cc in e) (is_constant v.kind) refl

    step_among : (name : List ℕ) (elements : List ChartElement) → declared_named vs name ≡ None → selected_by w.variables name ≡ member_selected (members_by units (inside units) vs) name
        → chart_within w.variables ≡ elements → list_any (λ (i : Identifier). is_word i.spelling name) (map (λ (s : Step). s.name) (flat_map steps_in elements)) ≡ true → IsStep w name
    step_among name elements none_is selected chart h = record {
      step = ap (λ (es : List ChartElement). list_any (λ (s : Step). is_word s.name.spelling name) (flat_map steps_in es)) chart ∙ steps_alike name (flat_map steps_in elements) h;
      apart = λ part. ap (λ (c : Composition). value_type (selected_by c part)) (selected ∙ undeclared units (inside units) vs name none_is);
    }

  pou_names : (unit : Declares) (p : Pou) (scope : Scope) → pou_faults units scope unit p ≡ []
      → Pairwise (λ a b. is_word a b ≡ false) (spellings (variable_names p.variables) ++ spellings (chart_names (chart_of p.body)))
  pou_names unit p scope clean =
      let own = repeated [] (variable_names p.variables ++ chart_names (chart_of p.body)) in
      let blocks = flat_map (block_faults units unit) p.variables in
      let first = (nothing_parts own blocks (nothing_parts (own ++ blocks) (body_of_faults scope p.name p.body) clean).0).0 in
      subst (Pairwise (λ a b. is_word a b ≡ false)) (map-append (λ (n : Identifier). n.spelling) (variable_names p.variables) (chart_names (chart_of p.body)))
      (apart_names [] (variable_names p.variables ++ chart_names (chart_of p.body)) first)

  pou_apart : (unit : Declares) (p : Pou) (scope : Scope) → pou_faults units scope unit p ≡ [] → Pairwise (λ a b. is_word a b ≡ false) (names_in (variables_of p.variables))
  pou_apart unit p scope clean =
      subst (Pairwise (λ a b. is_word a b ≡ false)) (sym (of_blocks p.variables))
      (pairwise_left (spellings (variable_names p.variables)) (spellings (chart_names (chart_of p.body))) (pou_names unit p scope clean))

  pou_actions : (unit : Declares) (p : Pou) (scope : Scope) → pou_faults units scope unit p ≡ [] → (name : List ℕ) → action_among name (chart_of p.body) ≡ true
      → declared_named (variables_of p.variables) name ≡ None
  pou_actions unit p scope clean name is =
      undeclared_action name (chart_of p.body) is (variables_of p.variables)
      (subst (Each (IsApartFrom (chart_of p.body))) (sym (of_blocks p.variables))
      (pairwise_cross (spellings (variable_names p.variables)) (spellings (chart_names (chart_of p.body))) (pou_names unit p scope clean)))

  block_knows : (i : ℕ) (name : Identifier) (b : Pou) → unit_at units i ≡ Some (named name (names.block b)) → Knows units order ordered faultless (names.block b) (unit_whole units (named name (names.block b)))
  unfolding unit_whole variable_named
  block_knows i id b at =
      let d = names.block b in
      let w = unit_whole units (named id d) in
      let clean = unit_faultless units i (named id d) faultless at in
      let vs = variables_of b.variables in
      let fits = blocks_fit units d b.variables (pou_blocks units order ordered faultless d d b (scope_of units d) clean) in
      let apart = pou_apart d b (scope_of units d) clean in
      record {
        variable = λ name s h. variable_among d w vs fits apart (λ n. refl) name s h refl;
        step = λ name none_is h. step_among d w vs fits apart (λ n. refl) name (chart_of b.body) (none_among d w vs fits apart (λ n. refl) name none_is) refl refl h;
        action = λ name is. ap value_type (undeclared units (inside units) vs name (pou_actions d b (scope_of units d) clean name is));
        instance = λ name s base h same is_one. instance_among d w vs fits apart (λ n. refl) name s base h same is_one refl refl;
        functions = λ name. refl;
      }

  program_knows : (i : ℕ) (name : Identifier) (p : Pou) → unit_at units i ≡ Some (named name (names.program p)) → Knows units order ordered faultless (names.program p) (unit_whole units (named name (names.program p)))
  unfolding unit_whole variable_named
  program_knows i id p at =
      let d = names.program p in
      let w = unit_whole units (named id d) in
      let clean = unit_faultless units i (named id d) faultless at in
      let vs = variables_of p.variables in
      let fits = blocks_fit units d p.variables (pou_blocks units order ordered faultless d d p (scope_of units d) clean) in
      let apart = pou_apart d p (scope_of units d) clean in
      record {
        variable = λ name s h. variable_among d w vs fits apart (λ n. refl) name s h refl;
        step = λ name none_is h. step_among d w vs fits apart (λ n. refl) name (chart_of p.body) (none_among d w vs fits apart (λ n. refl) name none_is) refl refl h;
        action = λ name is. ap value_type (undeclared units (inside units) vs name (pou_actions d p (scope_of units d) clean name is));
        instance = λ name s base h same is_one. instance_among d w vs fits apart (λ n. refl) name s base h same is_one refl refl;
        functions = λ name. refl;
      }

  -- ---- functions, whose result stands before what is declared

  own_apart : (f : Function) (ns : List (List ℕ)) → Each (λ n. is_there (f.name.spelling ∷ []) n ≡ false) ns → Each (λ n. is_word f.name.spelling n ≡ false) ns
  own_apart f [] h = tt
  own_apart f (n ∷ ns) h = ((neither (is_word f.name.spelling n) false h.0).0, own_apart f ns h.1)

  function_knows : (i : ℕ) (name : Identifier) (f : Function) → unit_at units i ≡ Some (named name (names.function f)) → Knows units order ordered faultless (names.function f) (unit_whole units (named name (names.function f)))
  unfolding unit_whole variable_named
  function_knows i id f at = record {
    variable = λ name s h. variable_is name s (is_word f.name.spelling name) refl h;
    step = λ name none_is h. absurd (cc);
    action = λ name is. absurd (cc);
    instance = λ name s base h same is_one. instance_is name s base (is_word f.name.spelling name) refl h same is_one;
    functions = λ name. refl;
  } where
    d : Declares
    d = names.function f

    w : Whole
    w = unit_whole units (named id (names.function f))

    vs : List Declared
    vs = variables_of f.variables

    fits : Each (VariableFits units (names.function f)) (variables_of f.variables)
    fits = function_variables units order ordered faultless (names.function f) i (named id (names.function f)) f at refl

    none_twice : repeated (f.name.spelling ∷ []) (variable_names f.variables) ≡ []
    none_twice =
        let own = repeated (f.name.spelling ∷ []) (variable_names f.variables) in
        let blocks = flat_map (block_faults units (names.function f)) f.variables in
        (nothing_parts own blocks (nothing_parts (own ++ blocks) (body_faults (scope_of units (names.function f)) f.statements) (unit_faultless units i (named id (names.function f)) faultless at)).0).0

    apart : Pairwise (λ a b. is_word a b ≡ false) (names_in (variables_of f.variables))
    apart = subst (Pairwise (λ a b. is_word a b ≡ false)) (sym (of_blocks f.variables)) (apart_names (f.name.spelling ∷ []) (variable_names f.variables) none_twice)

    other_names : Each (λ n. is_word f.name.spelling n ≡ false) (names_in (variables_of f.variables))
    other_names = own_apart f (names_in (variables_of f.variables))
        (subst (Each (λ n. is_there (f.name.spelling ∷ []) n ≡ false)) (sym (of_blocks f.variables)) (new_names (f.name.spelling ∷ []) [] (variable_names f.variables) none_twice))

    selected : (name : List ℕ) (b : Bool) → is_word f.name.spelling name ≡ b
        → selected_by (unit_whole units (named id (names.function f))).variables name ≡ (if b then elementary (zero_of f.result) else member_selected (members_by units (inside units) (variables_of f.variables)) name)
    selected name b q = ap (λ (b : Bool). if b then elementary (zero_of f.result) else member_selected (members_by units (inside units) (variables_of f.variables)) name) q

    invoked : (name : List ℕ) (b : Bool) → is_word f.name.spelling name ≡ b
        → (unit_whole units (named id (names.function f))).invoked name ≡ (if b then None else member_instance units (members_by units (inside units) (variables_of f.variables)) name)
    invoked name b q = ap (λ (b : Bool). if b then None else member_instance units (members_by units (inside units) (variables_of f.variables)) name) q

    variable_is : (name : List ℕ) (s : Symbol) (b : Bool) → is_word f.name.spelling name ≡ b
        → (if b then Some (symbol purposes.Result (plain (bases.Elementary f.result))) else option_map (symbol_of units (names.function f)) (declared_named (variables_of f.variables) name)) ≡ Some s
        → IsVariable (here units (names.function f)) (unit_whole units (named id (names.function f))) name s
    variable_is name s true q h =
        let same : symbol purposes.Result (plain (bases.Elementary f.result)) ≡ s = cc in
        subst (IsVariable (here units (names.function f)) (unit_whole units (named id (names.function f))) name) same
        (member_is (constant_nowhere (declared_composition units (inside units)) (variables_of f.variables) f.name.spelling name other_names q)
        (subst (IsMadeOf (here units (names.function f)) (plain (bases.Elementary f.result))) (sym (selected name true q)) (elementary_made units (names.function f) f.result (zero_of f.result) refl)))
    variable_is name s false q h = variable_among (names.function f) (unit_whole units (named id (names.function f))) (variables_of f.variables) fits apart (λ n. refl) name s h (selected name false q)

    instance_is : (name : List ℕ) (s : Symbol) (base : Base) (b : Bool) → is_word f.name.spelling name ≡ b
        → (if b then Some (symbol purposes.Result (plain (bases.Elementary f.result))) else option_map (symbol_of units (names.function f)) (declared_named (variables_of f.variables) name)) ≡ Some s
        → s.shape ≡ plain base → types.is_instance base ≡ true
        → IsTrue (is_some (block_of (selected_by (unit_whole units (named id (names.function f))).variables name)) || is_some ((unit_whole units (named id (names.function f))).invoked name))
    instance_is name s base true q h same is_one =
        let e : symbol purposes.Result (plain (bases.Elementary f.result)) ≡ s = cc in
        let shapes : plain (bases.Elementary f.result) ≡ plain base = ap (λ (z : Symbol). z.shape) e ∙ same in
        absurd (let r : false ≡ true = ap (λ (z : Shape). types.is_instance z.base) shapes ∙ is_one in cc)
    instance_is name s base false q h same is_one =
        instance_among (names.function f) (unit_whole units (named id (names.function f))) (variables_of f.variables) fits apart (λ n. refl) name s base h same is_one (selected name false q) (invoked name false q)

  -- ---- each unit that has a body

  pub unit_ties : (i : ℕ) (name : Identifier) (d : Declares) → unit_at units i ≡ Some (named name d) → has_body d ≡ true → Ties (scope_of units d) (unit_whole units (named name d))
  unit_ties i name (names.block b) at body = ties_with units order ordered faultless (names.block b) (unit_whole units (named name (names.block b))) (block_knows i name b at)
  unit_ties i name (names.program p) at body = ties_with units order ordered faultless (names.program p) (unit_whole units (named name (names.program p))) (program_knows i name p at)
  unit_ties i name (names.function f) at body = ties_with units order ordered faultless (names.function f) (unit_whole units (named name (names.function f))) (function_knows i name f at)
  unit_ties i name (names.type t) at body = absurd (cc)
