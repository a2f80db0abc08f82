-- In a text without faults, what has a type consists of what the rules say it is made of.
use Rattle.std.proofs.Common.{◌≡◌, ℕ, suc, ◌==◌, ◌<◌, Bool, true, false, ◌&&◌, ◌||◌, not, if◌then◌else◌, List, [], ◌∷◌, ◌++◌, length, get_or, map, take, Option, Some, None, refl, sym, ap, ◌∙◌, subst, arith, eq-eqb}
use Rattle.std.specs.Char.{to_ascii_uppercase}
use Rattle.std.specs.List.{All, AllByRecursion as Each, Contains, flat_map}
use Rattle.std.proofs.lemmas.Grind.{flat_map-append}
use Rattle.std.proofs.lemmas.List.{length-map, take_all}
use Rattle.std.proofs.lemmas.List.Elements.{All-cons, All-contains, All-nil}
use Rattle.std.specs.Option.{option_map}
use Rattle.st_values.specs.Words.{is_word}
use Rattle.st_values.specs.declared.elem.Elem.{Elem}
use Rattle.st_values.specs.declared.value.Value.{Value}
use Rattle.st_tree.specs.declared.tree.constant.Constant.{Constant}
use Rattle.st_tree.specs.declared.tree.declaration.Declaration.{Declaration}
use Rattle.st_tree.specs.declared.tree.declaration.DeclaredType.TheVariants as declared_types
use Rattle.st_tree.specs.declared.tree.declaration.Initial.{Initial}
use Rattle.st_tree.specs.declared.tree.declaration.Initial.TheVariants as initials
use Rattle.st_tree.specs.declared.tree.declaration.Specification.{Specification}
use Rattle.st_tree.specs.declared.tree.declaration.Specification.TheVariants as specifications
use Rattle.st_tree.specs.declared.tree.declaration.Subrange.{Subrange}
use Rattle.st_tree.specs.declared.tree.declaration.TypeName.{TypeName}
use Rattle.st_tree.specs.declared.tree.declaration.TypeName.TheVariants as type_names
use Rattle.st_tree.specs.declared.tree.declaration.VarBlock.{VarBlock}
use Rattle.st_tree.specs.declared.tree.declaration.VarKind.{VarKind}
use Rattle.st_tree.specs.declared.tree.declaration.VarKind.TheVariants as var_kinds
use Rattle.st_tree.specs.declared.tree.position.Identifier.{Identifier}
use Rattle.st_tree.specs.declared.tree.position.Position.{Position}
use Rattle.st_tree.specs.declared.tree.unit.Pou.{Pou}
use Rattle.st_faults.specs.Faults.{fault, when}
use Rattle.st_faults.specs.declared.fault.Rule.TheVariants as rules
use Rattle.st_operators.proofs.Results.{wrapped_is}
use Rattle.st_types.specs.Compositions.{Composition, elements_composition, optional_composition, unit_composition, unknown, elementary, array, composed, standard, composition_within, members_by, started, subscripted, declared_composition, member}
use Rattle.st_types.specs.Initials.{element_initial, initial_of, number_in, unit_element_initial, zero_of}
use Rattle.st_types.specs.Names.{Declared, Declares, Named, declared_in, declared_named, chart_of, members_of, number_of, unit_at, unit_by, variables_of}
use Rattle.st_types.specs.Names as names
use Rattle.st_types.specs.Scopes.{Scope, component_of, component_shape, may_hold_instances, must_be_value, pin_member, pin_symbol, scope_of, variable_shape}
use Rattle.st_types.specs.Scopes as scopes
use Rattle.st_types.specs.Standard.{Pin, pin_named, pins_of, standard_of}
use Rattle.st_types.specs.declared.standard.Standard.{Standard}
use Rattle.st_types.specs.declared.standard.Standard.TheVariants as standards
use Rattle.st_types.specs.Types.{Elements, Shape, array_of, array_shape, elements_in, optional_elements, declared_elements, elem_of, is_instance, is_unknown, is_value, name_stands_for, optional_stands_for, plain, shape_of, stands_for, type_at, type_named, type_within, unit_stands_for, without_instance}
use Rattle.st_types.specs.Types as types
use Rattle.st_types.specs.declared.base.Base.{Base}
use Rattle.st_types.specs.declared.base.Base.TheVariants as bases
use Rattle.st_types.specs.declared.standard.StandardBlock.{StandardBlock}
use Rattle.st_types.specs.declared.symbol.Symbol.{Symbol}
use Rattle.st_leaves.specs.Selected.{element_of, member_selected, pin_selected, selected_by, takes_subscripts, value_type}
use Rattle.st_references.specs.Graphs.{IsOrder}
use Rattle.st_references.proofs.Contents.{contents}
use Rattle.st_references.proofs.InOrder.{all_in_order}
use Rattle.st_references.proofs.Lists.{all_left, all_right}
use Rattle.st_references.specs.References.{contained, graph_of, type_names_in}
use Rattle.st_references.specs.References as references
use Rattle.st_check.proofs.Names.{of_name}
use Rattle.st_check.proofs.Unfolding.{unfolded}
use Rattle.st_types.proofs.Units.{found_below}
use Rattle.st_places.specs.Contents.{IsUnfolded}
use Rattle.st_places.proofs.Selections.{all_unfolded}
use Rattle.st_places.specs.Parts.{inside}
use Rattle.st_leaves.proofs.Pairs.{each_append}
use Rattle.st_tree.specs.Kinds.{is_output, is_constant}
use Rattle.st_check_units.specs.Declarations.{as_type, block_faults, declaration_faults, declared_names, initial_faults, is_function, is_misdeclared, is_misvalued, is_missing, is_permitted, named_as_type, optional_as_type, type_fits, unit_as_type, misdeclared_faults, permitted, specification_faults, specification_fits, specified_faults, type_faults}
use Rattle.st_check_units.specs.Subscripts.{subrange_faults}
use Rattle.st_check.proofs.Apart.{kept_when, neither, nothing_parts}
use Rattle.st_check.proofs.UnitsApart.{unit_faultless}
use Rattle.st_check_units.specs.Repeats.{repeated}
use Rattle.st_check_units.specs.Units.{body_of_faults, chart_names, node_faults, pou_faults, unit_faults, variable_names}
use Rattle.st_check_units.specs.declared.permitted.Permitted.{Permitted}
use Rattle.st_check_units.specs.declared.permitted.Permitted.TheVariants as permits
use Rattle.st_compile.specs.Ties.{IsMadeOf, made}
use Rattle.st_check.proofs.DataTypes.{IsData, IsDataAt, data_before, declares_type, name_data, specified_fits}
use Rattle.st_compile.proofs.Places.{or_true}
use Rattle.st_values.proofs.Cases.{both}

-- ---- what is written first changes no part

started_type : (initial : Option Initial) (c : Composition) → value_type (started initial c) ≡ value_type c
started_type None c = refl
started_type (Some (initials.Constant k)) unknown = refl
started_type (Some (initials.Constant k)) (elementary v) = ap (λ (e : Elem). Some e) (wrapped_is v.elem (number_in k)).of_type
started_type (Some (initials.Constant k)) (array ranges firsts c) = refl
started_type (Some (initials.Constant k)) (composed name ms chart) = refl
started_type (Some (initials.Constant k)) (standard b) = refl
started_type (Some (initials.Array position items)) unknown = refl
started_type (Some (initials.Array position items)) (elementary v) = refl
started_type (Some (initials.Array position items)) (array ranges firsts c) = refl
started_type (Some (initials.Array position items)) (composed name ms chart) = refl
started_type (Some (initials.Array position items)) (standard b) = refl

started_takes : (initial : Option Initial) (c : Composition) (n : ℕ) → takes_subscripts (started initial c) n ≡ takes_subscripts c n
started_takes None c n = refl
started_takes (Some (initials.Constant k)) unknown n = refl
started_takes (Some (initials.Constant k)) (elementary v) n = refl
started_takes (Some (initials.Constant k)) (array ranges firsts c) n = refl
started_takes (Some (initials.Constant k)) (composed name ms chart) n = refl
started_takes (Some (initials.Constant k)) (standard b) n = refl
started_takes (Some (initials.Array position items)) unknown n = refl
started_takes (Some (initials.Array position items)) (elementary v) n = refl
started_takes (Some (initials.Array position items)) (array ranges firsts c) n = refl
started_takes (Some (initials.Array position items)) (composed name ms chart) n = refl
started_takes (Some (initials.Array position items)) (standard b) n = refl

started_element : (initial : Option Initial) (c : Composition) → element_of (started initial c) ≡ element_of c
started_element None c = refl
started_element (Some (initials.Constant k)) unknown = refl
started_element (Some (initials.Constant k)) (elementary v) = refl
started_element (Some (initials.Constant k)) (array ranges firsts c) = refl
started_element (Some (initials.Constant k)) (composed name ms chart) = refl
started_element (Some (initials.Constant k)) (standard b) = refl
started_element (Some (initials.Array position items)) unknown = refl
started_element (Some (initials.Array position items)) (elementary v) = refl
started_element (Some (initials.Array position items)) (array ranges firsts c) = refl
started_element (Some (initials.Array position items)) (composed name ms chart) = refl
started_element (Some (initials.Array position items)) (standard b) = refl

started_selected : (initial : Option Initial) (c : Composition) (part : List ℕ) → selected_by (started initial c) part ≡ selected_by c part
started_selected None c part = refl
started_selected (Some (initials.Constant k)) unknown part = refl
started_selected (Some (initials.Constant k)) (elementary v) part = refl
started_selected (Some (initials.Constant k)) (array ranges firsts c) part = refl
started_selected (Some (initials.Constant k)) (composed name ms chart) part = refl
started_selected (Some (initials.Constant k)) (standard b) part = refl
started_selected (Some (initials.Array position items)) unknown part = refl
started_selected (Some (initials.Array position items)) (elementary v) part = refl
started_selected (Some (initials.Array position items)) (array ranges firsts c) part = refl
started_selected (Some (initials.Array position items)) (composed name ms chart) part = refl
started_selected (Some (initials.Array position items)) (standard b) part = refl

-- with the same parts
same_made : (scope : Scope) (s : Shape) (c d : Composition) → value_type d ≡ value_type c → ((n : ℕ) → takes_subscripts d n ≡ takes_subscripts c n) → element_of d ≡ element_of c
    → ((part : List ℕ) → selected_by d part ≡ selected_by c part) → IsMadeOf scope s c → IsMadeOf scope s d
same_made scope s c d types takes element selected (made known value subscripts elements members) =
    made known (λ e h. types ∙ value e h) (λ es h. takes (length es.subscripts) ∙ subscripts es h) (λ es h. subst (IsMadeOf scope (plain es.element)) (sym element) (elements es h))
    (λ part found h. subst (IsMadeOf scope found.shape) (sym (selected part)) (members part found h))

pub started_made : (scope : Scope) (s : Shape) (c : Composition) (initial : Option Initial) → IsMadeOf scope s c → IsMadeOf scope s (started initial c)
started_made scope s c initial is = same_made scope s c (started initial c) (started_type initial c) (started_takes initial c) (started_element initial c) (started_selected initial c) is

-- ---- by the first of a name

pub declared_first : (units : List Named) (within : Base → Composition) (vs : List Declared) (name : List ℕ) (v : Declared) → declared_named vs name ≡ Some v → is_constant v.kind ≡ false
    → member_selected (members_by units within vs) name ≡ declared_composition units within v
declared_first units within [] name v h kind = cc
declared_first units within (u ∷ vs) name v h kind = by (is_word u.name.spelling name) refl h (λ q. declared_first units within vs name v q kind) where
  here : (b : Bool) → is_constant u.kind ≡ b → u ≡ v → is_word u.name.spelling name ≡ true
      → member_selected (if b then members_by units within vs else member u.name.spelling u.kind (declared_composition units within u) (members_by units within vs)) name ≡ declared_composition units within v
  here true q same word = absurd (let e : true ≡ false = sym q ∙ ap (λ (z : Declared). is_constant z.kind) same ∙ kind in cc)
  here false q same word =
      ap (λ (b : Bool). if b then declared_composition units within u else member_selected (members_by units within vs) name) word ∙ ap (declared_composition units within) same

  there : (b : Bool) → is_word u.name.spelling name ≡ false → member_selected (members_by units within vs) name ≡ declared_composition units within v
      → member_selected (if b then members_by units within vs else member u.name.spelling u.kind (declared_composition units within u) (members_by units within vs)) name ≡ declared_composition units within v
  there true word rest = rest
  there false word rest = ap (λ (b : Bool). if b then declared_composition units within u else member_selected (members_by units within vs) name) word ∙ rest

  by : (b : Bool) → is_word u.name.spelling name ≡ b → (if b then Some u else declared_named vs name) ≡ Some v
      → (declared_named vs name ≡ Some v → member_selected (members_by units within vs) name ≡ declared_composition units within v) → member_selected (members_by units within (u ∷ vs)) name ≡ declared_composition units within v
  by true word h rest = here (is_constant u.kind) refl (let e : u ≡ v = cc in e) word
  by false word h rest = there (is_constant u.kind) word (rest h)

-- ---- what is declared without a fault

-- what is specified has no fault, and is permitted there, and neither has its initial value
pub record FitsAs (units : List Named) (p : Permitted) (s : Specification) (initial : Option Initial) : Type 0 where
  pub none : specification_faults units s ≡ []
  pub fits : is_permitted p units s ≡ true
  pub begins : initial_faults units (shape_of units s) initial ≡ []
  pub valued : is_misvalued units (shape_of units s) initial ≡ false

abbrev pub DeclaredFits : List Named → Permitted → Declared → Type 0
DeclaredFits units p v = FitsAs units p v.specification v.initial

pub specified_fit : (units : List Named) (p : Permitted) (s : Specification) (initial : Option Initial) → specified_faults units s initial ≡ [] → is_misdeclared units p s initial ≡ false → FitsAs units p s initial
specified_fit units p s initial clean right =
    let parts = nothing_parts (specification_faults units s) (initial_faults units (shape_of units s) initial) clean in
    record {
      none = parts.0;
      fits = specified_fits units p s initial right;
      begins = parts.1;
      valued = (neither (not (is_permitted p units s)) (is_misvalued units (shape_of units s) initial) right).1;
    }

names_fit : (units : List Named) (p : Permitted) (kind : VarKind) (d : Declaration) (wrong : Bool) (ns : List Identifier) → misdeclared_faults wrong ns ≡ [] → (wrong ≡ false → FitsAs units p d.specification d.initial)
    → Each (DeclaredFits units p) (map (λ n. record { name = n; kind = kind; specification = d.specification; initial = d.initial }) ns)
names_fit units p kind d wrong [] clean h = tt
names_fit units p kind d wrong (n ∷ ns) clean h =
    let parts = nothing_parts (when wrong (fault n.position rules.TypeMismatch)) (misdeclared_faults wrong ns) clean in
    (h (kept_when wrong (fault n.position rules.TypeMismatch) parts.0), names_fit units p kind d wrong ns parts.1 h)

declaration_fits : (units : List Named) (p : Permitted) (kind : VarKind) (d : Declaration) → declaration_faults units p d ≡ [] → Each (DeclaredFits units p) (declared_in kind d)
declaration_fits units p kind d clean =
    let wrong = is_misdeclared units p d.specification d.initial in
    let parts = nothing_parts (specified_faults units d.specification d.initial) (misdeclared_faults wrong d.names) clean in
    names_fit units p kind d wrong d.names parts.1 (λ right. specified_fit units p d.specification d.initial parts.0 right)

pub declarations_fit : (units : List Named) (p : Permitted) (kind : VarKind) (ds : List Declaration) → flat_map (declaration_faults units p) ds ≡ [] → Each (DeclaredFits units p) (flat_map (declared_in kind) ds)
declarations_fit units p kind [] clean = tt
declarations_fit units p kind (d ∷ ds) clean =
    let parts = nothing_parts (declaration_faults units p d) (flat_map (declaration_faults units p) ds) clean in
    each_append (DeclaredFits units p) (declared_in kind d) (flat_map (declared_in kind) ds) (declaration_fits units p kind d parts.0) (declarations_fit units p kind ds parts.1)

-- by the kind of each
abbrev pub VariableFits : List Named → Declares → Declared → Type 0
VariableFits units unit v = DeclaredFits units (permitted unit v.kind) v

kinds_alike : (units : List Named) (unit : Declares) (kind : VarKind) (d : Declaration) (ns : List Identifier)
    → Each (DeclaredFits units (permitted unit kind)) (map (λ n. record { name = n; kind = kind; specification = d.specification; initial = d.initial }) ns)
    → Each (VariableFits units unit) (map (λ n. record { name = n; kind = kind; specification = d.specification; initial = d.initial }) ns)
kinds_alike units unit kind d [] h = tt
kinds_alike units unit kind d (n ∷ ns) h = (h.0, kinds_alike units unit kind d ns h.1)

block_declarations_fit : (units : List Named) (unit : Declares) (kind : VarKind) (ds : List Declaration) → flat_map (declaration_faults units (permitted unit kind)) ds ≡ [] → Each (VariableFits units unit) (flat_map (declared_in kind) ds)
block_declarations_fit units unit kind [] clean = tt
block_declarations_fit units unit kind (d ∷ ds) clean =
    let p = permitted unit kind in
    let parts = nothing_parts (declaration_faults units p d) (flat_map (declaration_faults units p) ds) clean in
    each_append (VariableFits units unit) (declared_in kind d) (flat_map (declared_in kind) ds) (kinds_alike units unit kind d d.names (declaration_fits units p kind d parts.0)) (block_declarations_fit units unit kind ds parts.1)

pub blocks_fit : (units : List Named) (unit : Declares) (blocks : List VarBlock) → flat_map (block_faults units unit) blocks ≡ [] → Each (VariableFits units unit) (variables_of blocks)
blocks_fit units unit [] clean = tt
blocks_fit units unit (b ∷ bs) clean =
    let parts = nothing_parts (block_faults units unit b) (flat_map (block_faults units unit) bs) clean in
    each_append (VariableFits units unit) (flat_map (declared_in b.kind) b.declarations) (variables_of bs) (block_declarations_fit units unit b.kind b.declarations parts.0) (blocks_fit units unit bs parts.1)

pub named_holds : (P : Declared → Type 0) (vs : List Declared) (name : List ℕ) (v : Declared) → Each P vs → declared_named vs name ≡ Some v → P v
named_holds P [] name v each h = cc
named_holds P (u ∷ vs) name v each h = by (is_word u.name.spelling name) h (named_holds P vs name v each.1) where
  by : (b : Bool) → (if b then Some u else declared_named vs name) ≡ Some v → (declared_named vs name ≡ Some v → P v) → P v
  by true h rest = subst P (let e : u ≡ v = cc in e) each.0
  by false h rest = rest h

-- ---- types that no unit declares

module _ (units : List Named) (d : Declares) where
  abbrev pub here : Scope
  here = scope_of units d

  -- what is known is made so
  abbrev pub Good : Base → Type 0
  Good base = is_unknown base ≡ false → IsMadeOf here (plain base) (inside units base)

  pub unknown_good : Good bases.Unknown
  unknown_good h = cc

  pub elementary_made : (e : Elem) (v : Value) → v.elem ≡ e → IsMadeOf here (plain (bases.Elementary e)) (elementary v)
  unfolding scope_of scopes.member_of
  elementary_made e v is = made refl (λ t h. ap (λ (x : Elem). Some x) is ∙ h) (λ es h. absurd (cc)) (λ es h. absurd (cc)) (λ part found h. absurd (cc))

  pub elementary_good : (e : Elem) → Good (bases.Elementary e)
  unfolding composition_within
  elementary_good e h = elementary_made e (zero_of e) refl

  pin_made : (o : Option Pin) (found : Symbol) → (pin_member o).symbol ≡ Some found → IsMadeOf here found.shape (pin_selected o)
  pin_made None found h = cc
  pin_made (Some p) found h = subst (λ (s : Symbol). IsMadeOf here s.shape (elementary (zero_of p.elem))) (let e : pin_symbol p ≡ found = cc in e) (elementary_made p.elem (zero_of p.elem) refl)

  pub standard_good : (b : StandardBlock) → Good (bases.Standard b)
  unfolding composition_within scope_of scopes.member_of
  standard_good b h = made refl (λ t h. absurd (cc)) (λ es h. absurd (cc)) (λ es h. absurd (cc)) (λ part found h. pin_made (pin_named (pins_of b) part) found h)

  -- ---- arrays

  pub array_made : (ranges : List Subrange) (firsts : List (Option Constant)) (base : Base) (c : Composition) → IsMadeOf here (plain base) c
      → IsMadeOf here (record { subscripts = Some ranges; base = base }) (array ranges firsts c)
  unfolding scope_of
  array_made ranges firsts base c (made known value takes elements members) =
      made known (λ e h. absurd (cc)) (λ es h. same_count ranges es (let e : record { subscripts = ranges; element = base } ≡ es = cc in e))
      (λ es h. subst (λ (x : Elements). IsMadeOf here (plain x.element) c) (let e : record { subscripts = ranges; element = base } ≡ es = cc in e) (made known value takes elements members)) (λ part found h. absurd (cc)) where
        same_count : (rs : List Subrange) (es : Elements) → record { subscripts = rs; element = base } ≡ es → (length es.subscripts == length rs) ≡ true
        same_count rs es h = subst (λ (x : Elements). (length x.subscripts == length rs) ≡ true) h (eq-eqb (length rs) (length rs) refl)

-- ---- what is specified

-- what each element is named as, or else it itself
abbrev pub specified_base : List Named → Specification → Base
specified_base units (specifications.Simple t) = name_stands_for (type_named units) t
specified_base units (specifications.Array position ranges t) = name_stands_for (type_named units) t

-- known, and an array of no instances
abbrev pub IsKnownAs : List Named → Specification → Type 0
IsKnownAs units (specifications.Simple t) = is_unknown (name_stands_for (type_named units) t) ≡ false
IsKnownAs units (specifications.Array position ranges t) = IsData (name_stands_for (type_named units) t)

pub array_shape_is : (ranges : List Subrange) (base : Base) → IsData base → array_shape ranges base ≡ record { subscripts = Some ranges; base = base }
array_shape_is ranges base is =
    let whole : without_instance base ≡ base = ap (λ (b : Bool). if b then bases.Unknown else base) is.plain in
    ap (λ (b : Bool). if b then types.unknown else record { subscripts = Some ranges; base = base }) (ap is_unknown whole ∙ is.known)

module _ (units : List Named) (d : Declares) where
  -- what a declaration says of a name, by its type
  abbrev pub said : Option Initial → Option Initial → Shape → Composition
  said initial own shape = started initial (subscripted shape.subscripts (started own (inside units shape.base)))

  pub said_made : (initial own : Option Initial) (s : Specification) → IsKnownAs units s → Good units d (specified_base units s) → IsMadeOf (here units d) (shape_of units s) (said initial own (shape_of units s))
  unfolding shape_of
  said_made initial own (specifications.Simple t) known good =
      let base = name_stands_for (type_named units) t in
      started_made (here units d) (plain base) (started own (inside units base)) initial (started_made (here units d) (plain base) (inside units base) own (good known))
  said_made initial own (specifications.Array position ranges t) is good =
      let base = name_stands_for (type_named units) t in
      let shape : Shape = record { subscripts = Some ranges; base = base } in
      subst (λ (z : Shape). IsMadeOf (here units d) z (said initial own z)) (sym (array_shape_is ranges base is))
      (started_made (here units d) shape (array ranges [] (started own (inside units base))) initial
      (array_made units d ranges [] base (started own (inside units base)) (started_made (here units d) (plain base) (inside units base) own (good is.known))))

  pub declared_made : (v : Declared) → IsKnownAs units v.specification → Good units d (specified_base units v.specification)
      → IsMadeOf (here units d) (shape_of units v.specification) (declared_composition units (inside units) v)
  declared_made v known good = said_made (initial_of units v) (element_initial units v.specification) v.specification known good

-- ---- in an order

all_everywhere : {X : Type 0} (P : X → Type 0) → ((x : X) → P x) → (xs : List X) → All P xs
all_everywhere P h [] = All-nil P
all_everywhere P h (x ∷ xs) = All-cons P x xs (h x) (all_everywhere P h xs)

each_contained : (units : List Named) (P : ℕ → Type 0) (vs : List Declared) → All P (flat_map (contained units) (flat_map references.declared_names vs))
    → Each (λ (v : Declared). All P (flat_map (contained units) (references.specified_names v.specification))) vs
each_contained units P [] all = tt
each_contained units P (v ∷ vs) all =
    let first = flat_map (contained units) (references.declared_names v) in
    let rest = flat_map (contained units) (flat_map references.declared_names vs) in
    let both : All P (first ++ rest) = subst (All P) (flat_map-append (contained units) (references.declared_names v) (flat_map references.declared_names vs)) all in
    (all_left P first rest both, each_contained units P vs (all_right P first rest both))

each_both : (P Q : Declared → Type 0) (vs : List Declared) → Each P vs → Each Q vs → Each (λ v. P v × Q v) vs
each_both P Q [] h k = tt
each_both P Q (v ∷ vs) h k = ((h.0, k.0), each_both P Q vs h.1 k.1)

no_constants : (d : Declaration) (ns : List Identifier) → Each (λ (v : Declared). is_constant v.kind ≡ false) (map (λ n. record { name = n; kind = var_kinds.Internal; specification = d.specification; initial = d.initial }) ns)
no_constants d [] = tt
no_constants d (n ∷ ns) = (refl, no_constants d ns)

members_no_constants : (ds : List Declaration) → Each (λ (v : Declared). is_constant v.kind ≡ false) (members_of ds)
members_no_constants [] = tt
members_no_constants (d ∷ ds) = each_append (λ (v : Declared). is_constant v.kind ≡ false) (declared_in var_kinds.Internal d) (members_of ds) (no_constants d d.names) (members_no_constants ds)

module _ (units : List Named) (order : List ℕ) (ordered : IsOrder (graph_of units) order) (faultless : node_faults units ≡ []) (d : Declares) where
  pub in_order : (i : ℕ) (u : Named) → unit_at units i ≡ Some u → Contains (take (length order) order) i
  in_order i u at =
      subst (λ placed. Contains placed i) (sym (take_all (length order) order (omega arith)))
      (ordered.all i (omega (arith, length-map units (λ v. references.references units v.declares), found_below units i u at)))

  pub data_all : (i : ℕ) → IsDataAt units i
  data_all i u at type = All-contains (IsDataAt units) (take (length order) order) i (data_before units order ordered faultless (length order) (omega arith)) (in_order i u at) u at type

  pub data_specified : (s : Specification) → specification_faults units s ≡ [] → specification_fits units false s ≡ true → IsKnownAs units s × IsData (specified_base units s)
  data_specified (specifications.Simple t) clean fits =
      let is = name_data units t clean fits (all_everywhere (IsDataAt units) data_all (flat_map (contained units) (type_names_in t))) in (is.known, is)
  data_specified (specifications.Array position ranges t) clean fits =
      let named = (nothing_parts (flat_map subrange_faults ranges) (type_faults units t) clean).1 in
      let is = name_data units t named fits (all_everywhere (IsDataAt units) data_all (flat_map (contained units) (type_names_in t))) in (is, is)

  -- ---- what is named in a specification

  base_good : (s : Specification) → All (λ i. Good units d (type_at units i)) (flat_map (contained units) (references.specified_names s)) → Good units d (specified_base units s)
  base_good (specifications.Simple t) all = of_name units (Good units d) (unknown_good units d) (elementary_good units d) (standard_good units d) t all
  base_good (specifications.Array position ranges t) all = of_name units (Good units d) (unknown_good units d) (elementary_good units d) (standard_good units d) t all

  without_good : (base : Base) → Good units d base → Good units d (without_instance base)
  without_good bases.Unknown is = is
  without_good (bases.Elementary e) is = is
  without_good (bases.Array i) is = is
  without_good (bases.Structure i) is = is
  without_good (bases.Block i) is = unknown_good units d
  without_good (bases.Standard b) is = unknown_good units d

  -- ---- structures

  component_plain : (s : Shape) → is_instance s.base ≡ false → component_shape s ≡ s
  component_plain s h = ap (λ (b : Bool). if b then types.unknown else s) h

  shape_plain : (s : Specification) → IsData (specified_base units s) → is_instance (shape_of units s).base ≡ false
  unfolding shape_of
  shape_plain (specifications.Simple t) is = is.plain
  shape_plain (specifications.Array position ranges t) is = ap (λ (z : Shape). is_instance z.base) (array_shape_is ranges (name_stands_for (type_named units) t) is) ∙ is.plain

  component_made : (v : Declared) → DeclaredFits units permits.Types v → All (λ i. Good units d (type_at units i)) (flat_map (contained units) (references.specified_names v.specification))
      → IsMadeOf (here units d) (component_shape (shape_of units v.specification)) (declared_composition units (inside units) v)
  component_made v fits all =
      let is = data_specified v.specification fits.none fits.fits in
      subst (λ (s : Shape). IsMadeOf (here units d) s (declared_composition units (inside units) v)) (sym (component_plain (shape_of units v.specification) (shape_plain v.specification is.1)))
      (declared_made units d v is.0 (base_good v.specification all))

  -- ---- names of types and function blocks

  type_once : (i : ℕ) → type_at units i ≡ optional_stands_for (λ name. stands_for (type_within units (length units)) (standard_of name) (number_of units name)) i (unit_at units i)
  unfolding type_at type_within
  type_once i = refl

  number_known : (i : ℕ) (u : Option Named) → unit_at units i ≡ u → is_missing (optional_as_type u) ≡ false → type_fits true (optional_as_type u) ≡ true → is_unknown (type_at units i) ≡ false
  number_known i None at there fits = absurd (cc)
  number_known i (Some u) at there fits = by u.declares refl fits where
    by : (e : Declares) → u.declares ≡ e → type_fits true (unit_as_type e) ≡ true → is_unknown (type_at units i) ≡ false
    by (names.type t) q fits = (data_all i u at (ap declares_type q)).known
    by (names.block b) q fits =
        let types_by = λ (name : List ℕ). stands_for (type_within units (length units)) (standard_of name) (number_of units name) in
        ap is_unknown (type_once i ∙ ap (optional_stands_for types_by i) at ∙ ap (unit_stands_for types_by i) q)
    by (names.function f) q fits = absurd (cc)
    by (names.program p) q fits = absurd (cc)

  standing_known : (s : Option Standard) (n : Option ℕ) → is_missing (named_as_type (unit_by units n) s) ≡ false → type_fits true (named_as_type (unit_by units n) s) ≡ true
      → is_unknown (stands_for (type_at units) s n) ≡ false
  standing_known (Some (standards.Block b)) n there fits = refl
  standing_known (Some (standards.Function f)) n there fits = absurd (cc)
  standing_known (Some (standards.Conversion x y)) n there fits = absurd (cc)
  standing_known None None there fits = absurd (cc)
  standing_known None (Some i) there fits = number_known i (unit_at units i) refl there fits

  name_known : (t : TypeName) → type_faults units t ≡ [] → type_fits true (as_type units t) ≡ true → is_unknown (name_stands_for (type_named units) t) ≡ false
  unfolding type_named
  name_known (type_names.Elementary position e) clean fits = refl
  name_known (type_names.Declared t) clean fits =
      standing_known (standard_of t.spelling) (number_of units t.spelling) (kept_when (is_missing (as_type units (type_names.Declared t))) (fault t.position rules.UnknownName) clean) fits

  any_specified : (s : Specification) → specification_faults units s ≡ [] → specification_fits units true s ≡ true → IsKnownAs units s
  any_specified (specifications.Simple t) clean fits = name_known t clean fits
  any_specified (specifications.Array position ranges t) clean fits = (data_specified (specifications.Array position ranges t) clean fits).0

  -- ---- variables by their kinds

  pub record KindFits (m h : Bool) (s : Specification) : Type 0 where
    pub known : IsKnownAs units s
    pub stands : ((is_instance (shape_of units s).base && not h) || (m && not (is_value (shape_of units s)))) ≡ false
    pub value : m ≡ true → is_value (shape_of units s) ≡ true

  shape_known : (s : Specification) → IsData (specified_base units s) → is_unknown (shape_of units s).base ≡ false
  unfolding shape_of
  shape_known (specifications.Simple t) is = is.known
  shape_known (specifications.Array position ranges t) is = ap (λ (z : Shape). is_unknown z.base) (array_shape_is ranges (name_stands_for (type_named units) t) is) ∙ is.known

  neither_stands : (i h m v : Bool) → (i && not h) ≡ false → (m && not v) ≡ false → ((i && not h) || (m && not v)) ≡ false
  neither_stands i h m v p q = ap (λ (b : Bool). b || (m && not v)) p ∙ q

  no_instance : (i h : Bool) → i ≡ false → (i && not h) ≡ false
  no_instance i h p = ap (λ (b : Bool). b && not h) p

  may_be : (i : Bool) → (i && not true) ≡ false
  may_be true = refl
  may_be false = refl

  kind_fits : (fo m h : Bool) (s : Specification) → specification_faults units s ≡ []
      → is_permitted (if fo then permits.Nothing else if m then permits.Values else if h then permits.Instances else permits.Types) units s ≡ true → KindFits m h s
  kind_fits true m h s clean fits = absurd (cc)
  kind_fits false true h s clean fits =
      let two = both (specification_fits units false s) (is_unknown (shape_of units s).base || is_value (shape_of units s)) fits in
      let is = data_specified s clean two.0 in
      let value = or_true (is_unknown (shape_of units s).base) (is_value (shape_of units s)) two.1 (shape_known s is.1) in
      record {
        known = is.0;
        stands = neither_stands (is_instance (shape_of units s).base) h true (is_value (shape_of units s)) (no_instance (is_instance (shape_of units s).base) h (shape_plain s is.1)) (ap (λ (b : Bool). true && not b) value);
        value = λ q. value;
      }
  kind_fits false false true s clean fits = record {
    known = any_specified s clean fits;
    stands = neither_stands (is_instance (shape_of units s).base) true false (is_value (shape_of units s)) (may_be (is_instance (shape_of units s).base)) refl;
    value = λ q. absurd (cc);
  }
  kind_fits false false false s clean fits =
      let is = data_specified s clean fits in
      record {
        known = is.0;
        stands = neither_stands (is_instance (shape_of units s).base) false false (is_value (shape_of units s)) (no_instance (is_instance (shape_of units s).base) false (shape_plain s is.1)) refl;
        value = λ q. absurd (cc);
      }

  pub variable_kind : (unit : Declares) (v : Declared) → VariableFits units unit v → KindFits (must_be_value unit v.kind) (may_hold_instances unit v.kind) v.specification
  variable_kind unit v fits = kind_fits (is_function unit && is_output v.kind) (must_be_value unit v.kind) (may_hold_instances unit v.kind) v.specification fits.none fits.fits

  pub placed_is : (unit : Declares) (v : Declared) → VariableFits units unit v → variable_shape units unit v ≡ shape_of units v.specification
  placed_is unit v fits = ap (λ (b : Bool). if b then types.unknown else shape_of units v.specification) (variable_kind unit v fits).stands

  pub variable_made : (unit : Declares) (v : Declared) → VariableFits units unit v → All (λ i. Good units d (type_at units i)) (flat_map (contained units) (references.specified_names v.specification))
      → IsMadeOf (here units d) (variable_shape units unit v) (declared_composition units (inside units) v)
  variable_made unit v fits all =
      subst (λ (s : Shape). IsMadeOf (here units d) s (declared_composition units (inside units) v)) (sym (placed_is unit v fits))
      (declared_made units d v (variable_kind unit v fits).known (base_good v.specification all))

  -- ---- units as types

  -- one unit more
  once_more : (base : Base) (i : ℕ) → type_at units i ≡ base → inside units base ≡ composition_within units (suc (suc (length units))) base
  once_more base i is = subst (IsUnfolded units) is (all_unfolded units order ordered i)

  abbrev Contained : Declared → Type 0
  Contained v = All (λ j. Good units d (type_at units j)) (flat_map (contained units) (references.specified_names v.specification))

  component_found : (vs : List Declared) → Each (DeclaredFits units permits.Types) vs → Each Contained vs → Each (λ (v : Declared). is_constant v.kind ≡ false) vs
      → (part : List ℕ) (found : Symbol) → option_map (component_of units) (declared_named vs part) ≡ Some found → IsMadeOf (here units d) found.shape (member_selected (members_by units (inside units) vs) part)
  component_found vs fits named kinds part found h = by (declared_named vs part) refl h where
    by : (o : Option Declared) → declared_named vs part ≡ o → option_map (component_of units) o ≡ Some found → IsMadeOf (here units d) found.shape (member_selected (members_by units (inside units) vs) part)
    by None q h = absurd (cc)
    by (Some v) q h =
        let same : component_of units v ≡ found = cc in
        let fits_v = named_holds (DeclaredFits units permits.Types) vs part v fits q in
        let named_v = named_holds Contained vs part v named q in
        let kind = named_holds (λ (v : Declared). is_constant v.kind ≡ false) vs part v kinds q in
        subst (λ (s : Symbol). IsMadeOf (here units d) s.shape (member_selected (members_by units (inside units) vs) part)) same
        (subst (IsMadeOf (here units d) (component_shape (shape_of units v.specification))) (sym (declared_first units (inside units) vs part v q kind)) (component_made v fits_v named_v))

  structure_made : (i : ℕ) (u : Named) (position : Position) (members : List Declaration) → unit_at units i ≡ Some u → u.declares ≡ names.type (declared_types.Structure position members) → type_at units i ≡ bases.Structure i
      → All (λ j. Good units d (type_at units j)) (contents units u) → IsMadeOf (here units d) (plain (bases.Structure i)) (inside units (bases.Structure i))
  unfolding composition_within scope_of scopes.member_of
  structure_made i u position members at is type all =
      let vs = members_of members in
      let name = map to_ascii_uppercase u.name.spelling in
      let whole : inside units (bases.Structure i) ≡ composed name (members_by units (inside units) vs) [] =
      once_more (bases.Structure i) i type ∙ ap (optional_composition units (inside units)) at ∙ ap (unit_composition units (inside units) name) is in
      let clean = subst (λ (e : Declares). unit_faults units (scope_of units e) u.name e ≡ []) is (unit_faultless units i u faultless at) in
      let declared = (nothing_parts (repeated [] (declared_names members)) (flat_map (declaration_faults units permits.Types) members) clean).1 in
      let fits = declarations_fit units permits.Types var_kinds.Internal members declared in
      let named = each_contained units (λ j. Good units d (type_at units j)) vs (subst (λ (e : Declares). All (λ j. Good units d (type_at units j)) (flat_map (contained units) (references.unit_types e))) is all) in
      subst (IsMadeOf (here units d) (plain (bases.Structure i))) (sym whole)
      (made refl (λ e h. absurd (cc)) (λ es h. absurd (cc)) (λ es h. absurd (cc)) (λ part found h. component_found vs fits named (members_no_constants members) part found
      (sym (ap (λ (o : Option Named). (scopes.optional_member units o part).symbol) at ∙ ap (λ (e : Declares). (scopes.unit_member units e part).symbol) is) ∙ h)))

  -- ---- function blocks: their inputs and outputs

  seen_made : (unit : Declares) (vs : List Declared) → Each (VariableFits units unit) vs → Each Contained vs → (part : List ℕ) (v : Declared) → declared_named vs part ≡ Some v → (found : Symbol)
      → (kind : VarKind) → v.kind ≡ kind → scopes.seen kind (scopes.symbol_of units unit v) ≡ Some found → IsMadeOf (here units d) found.shape (member_selected (members_by units (inside units) vs) part)
  seen_made unit vs fits named part v q found kind k h =
      let fits_v = named_holds (VariableFits units unit) vs part v fits q in
      let named_v = named_holds Contained vs part v named q in
      by kind k h where
        by : (kind : VarKind) → v.kind ≡ kind → scopes.seen kind (scopes.symbol_of units unit v) ≡ Some found → IsMadeOf (here units d) found.shape (member_selected (members_by units (inside units) vs) part)
        by var_kinds.Input k h =
            let same : scopes.symbol_of units unit v ≡ found = cc in
            subst (λ (s : Symbol). IsMadeOf (here units d) s.shape (member_selected (members_by units (inside units) vs) part)) same
            (subst (IsMadeOf (here units d) (variable_shape units unit v)) (sym (declared_first units (inside units) vs part v q (ap is_constant k)))
            (variable_made unit v (named_holds (VariableFits units unit) vs part v fits q) (named_holds Contained vs part v named q)))
        by var_kinds.Output k h =
            let same : scopes.symbol_of units unit v ≡ found = cc in
            subst (λ (s : Symbol). IsMadeOf (here units d) s.shape (member_selected (members_by units (inside units) vs) part)) same
            (subst (IsMadeOf (here units d) (variable_shape units unit v)) (sym (declared_first units (inside units) vs part v q (ap is_constant k)))
            (variable_made unit v (named_holds (VariableFits units unit) vs part v fits q) (named_holds Contained vs part v named q)))
        by var_kinds.Internal k h = absurd (cc)
        by var_kinds.Constant k h = absurd (cc)

  parameter_found : (unit : Declares) (vs : List Declared) → Each (VariableFits units unit) vs → Each Contained vs → (part : List ℕ) (found : Symbol)
      → (scopes.parameter_member units unit (declared_named vs part)).symbol ≡ Some found → IsMadeOf (here units d) found.shape (member_selected (members_by units (inside units) vs) part)
  parameter_found unit vs fits named part found h = by (declared_named vs part) refl h where
    by : (o : Option Declared) → declared_named vs part ≡ o → (scopes.parameter_member units unit o).symbol ≡ Some found → IsMadeOf (here units d) found.shape (member_selected (members_by units (inside units) vs) part)
    by None q h = absurd (cc)
    by (Some v) q h = seen_made unit vs fits named part v q found v.kind refl h

  pub pou_blocks : (unit : Declares) (p : Pou) (scope : Scope) → pou_faults units scope unit p ≡ [] → flat_map (block_faults units unit) p.variables ≡ []
  pou_blocks unit p scope clean =
      let names = repeated [] (variable_names p.variables ++ chart_names (chart_of p.body)) in
      let blocks = flat_map (block_faults units unit) p.variables in
      (nothing_parts names blocks (nothing_parts (names ++ blocks) (body_of_faults scope p.name p.body) clean).0).1

  block_made : (i : ℕ) (u : Named) (b : Pou) → unit_at units i ≡ Some u → u.declares ≡ names.block b → type_at units i ≡ bases.Block i
      → All (λ j. Good units d (type_at units j)) (contents units u) → IsMadeOf (here units d) (plain (bases.Block i)) (inside units (bases.Block i))
  unfolding composition_within scope_of scopes.member_of
  block_made i u b at is type all =
      let vs = variables_of b.variables in
      let unit = names.block b in
      let name = map to_ascii_uppercase u.name.spelling in
      let whole : inside units (bases.Block i) ≡ composed name (members_by units (inside units) vs) (chart_of b.body) =
      once_more (bases.Block i) i type ∙ ap (optional_composition units (inside units)) at ∙ ap (unit_composition units (inside units) name) is in
      let clean = subst (λ (e : Declares). unit_faults units (scope_of units e) u.name e ≡ []) is (unit_faultless units i u faultless at) in
      let fits = blocks_fit units unit b.variables (pou_blocks unit b (scope_of units unit) clean) in
      let named = each_contained units (λ j. Good units d (type_at units j)) vs (subst (λ (e : Declares). All (λ j. Good units d (type_at units j)) (flat_map (contained units) (references.unit_types e))) is all) in
      subst (IsMadeOf (here units d) (plain (bases.Block i))) (sym whole)
      (made refl (λ e h. absurd (cc)) (λ es h. absurd (cc)) (λ es h. absurd (cc)) (λ part found h. parameter_found unit vs fits named part found
      (sym (ap (λ (o : Option Named). (scopes.optional_member units o part).symbol) at ∙ ap (λ (e : Declares). (scopes.unit_member units e part).symbol) is) ∙ h)))

  -- ---- array types

  array_made_of : (i : ℕ) (ranges : List Subrange) (base : Base) (c : Composition) → elements_in units (bases.Array i) ≡ Some (record { subscripts = ranges; element = base }) → IsMadeOf (here units d) (plain base) c
      → IsMadeOf (here units d) (plain (bases.Array i)) (array ranges [] c)
  unfolding scope_of scopes.member_of
  array_made_of i ranges base c found is =
      made refl (λ e h. absurd (cc)) (λ es h. same_count es (same es h)) (λ es h. subst (λ (x : Elements). IsMadeOf (here units d) (plain x.element) c) (same es h) is) (λ part other h. absurd (cc)) where
        same : (es : Elements) → elements_in units (bases.Array i) ≡ Some es → record { subscripts = ranges; element = base } ≡ es
        same es h = let e : Some (record { subscripts = ranges; element = base }) ≡ Some es = sym found ∙ h in cc

        same_count : (es : Elements) → record { subscripts = ranges; element = base } ≡ es → (length es.subscripts == length ranges) ≡ true
        same_count es h = subst (λ (x : Elements). (length x.subscripts == length ranges) ≡ true) h (eq-eqb (length ranges) (length ranges) refl)

  without_known : (base : Base) → is_unknown (without_instance base) ≡ false → is_unknown base ≡ false
  without_known bases.Unknown h = absurd (cc)
  without_known (bases.Elementary e) h = refl
  without_known (bases.Array i) h = refl
  without_known (bases.Structure i) h = refl
  without_known (bases.Block i) h = refl
  without_known (bases.Standard b) h = refl

  array_good : (i : ℕ) (u : Named) (position : Position) (ranges : List Subrange) (t : TypeName) (initial : Option Initial) → unit_at units i ≡ Some u
      → u.declares ≡ names.type (declared_types.Derived (specifications.Array position ranges t) initial) → type_at units i ≡ array_of i (name_stands_for (type_named units) t)
      → Good units d (name_stands_for (type_named units) t) → Good units d (type_at units i)
  unfolding composition_within
  array_good i u position ranges t initial at is type good = by (is_unknown (without_instance (name_stands_for (type_named units) t))) refl where
    by : (b : Bool) → is_unknown (without_instance (name_stands_for (type_named units) t)) ≡ b → Good units d (type_at units i)
    by true q = λ h. absurd (let e : is_unknown (type_at units i) ≡ true = ap is_unknown (type ∙ ap (λ (b : Bool). if b then bases.Unknown else bases.Array i) q) in cc)
    by false q =
        let base = name_stands_for (type_named units) t in
        let is_array : type_at units i ≡ bases.Array i = type ∙ ap (λ (b : Bool). if b then bases.Unknown else bases.Array i) q in
        let found : elements_in units (bases.Array i) ≡ Some (record { subscripts = ranges; element = base }) = ap (optional_elements units) at ∙ ap (declared_elements units) is in
        let own = unit_element_initial units (unit_at units i) in
        let whole : inside units (bases.Array i) ≡ array ranges [] (started own (inside units base)) =
        once_more (bases.Array i) i is_array ∙ ap (elements_composition (inside units) own) found in
        let element = started_made (here units d) (plain base) (inside units base) own (good (without_known base q)) in
        subst (Good units d) (sym is_array) (λ h. subst (IsMadeOf (here units d) (plain (bases.Array i))) (sym whole) (array_made_of i ranges base (started own (inside units base)) found element))

  -- ---- all units

  unit_good : (i : ℕ) (u : Named) → unit_at units i ≡ Some u → type_at units i ≡ unit_stands_for (type_named units) i u.declares → All (λ j. Good units d (type_at units j)) (contents units u) → Good units d (type_at units i)
  unit_good i u at type all = by u.declares refl where
    by : (e : Declares) → u.declares ≡ e → Good units d (type_at units i)
    by (names.type (declared_types.Derived (specifications.Simple t) initial)) q =
        let inner = subst (λ (e : Declares). All (λ j. Good units d (type_at units j)) (flat_map (contained units) (references.unit_types e))) q all in
        subst (Good units d) (sym (type ∙ ap (unit_stands_for (type_named units) i) q)) (without_good (name_stands_for (type_named units) t) (base_good (specifications.Simple t) inner))
    by (names.type (declared_types.Derived (specifications.Array position ranges t) initial)) q =
        let inner = subst (λ (e : Declares). All (λ j. Good units d (type_at units j)) (flat_map (contained units) (references.unit_types e))) q all in
        array_good i u position ranges t initial at q (type ∙ ap (unit_stands_for (type_named units) i) q) (base_good (specifications.Array position ranges t) inner)
    by (names.type (declared_types.Structure position members)) q =
        let is : type_at units i ≡ bases.Structure i = type ∙ ap (unit_stands_for (type_named units) i) q in
        subst (Good units d) (sym is) (λ h. structure_made i u position members at q is all)
    by (names.block b) q =
        let is : type_at units i ≡ bases.Block i = type ∙ ap (unit_stands_for (type_named units) i) q in
        subst (Good units d) (sym is) (λ h. block_made i u b at q is all)
    by (names.function f) q = subst (Good units d) (sym (type ∙ ap (unit_stands_for (type_named units) i) q)) (unknown_good units d)
    by (names.program p) q = subst (Good units d) (sym (type ∙ ap (unit_stands_for (type_named units) i) q)) (unknown_good units d)

  next_good : (place : ℕ) → place < length order → ((u : Named) → unit_at units (get_or order place 0) ≡ Some u → All (λ j. Good units d (type_at units j)) (contents units u))
      → Good units d (type_at units (get_or order place 0))
  next_good place below all = by (unit_at units (get_or order place 0)) refl where
    by : (o : Option Named) → unit_at units (get_or order place 0) ≡ o → Good units d (type_at units (get_or order place 0))
    by None q = subst (Good units d) (sym (unfolded units order ordered place below ∙ ap (optional_stands_for (type_named units) (get_or order place 0)) q)) (unknown_good units d)
    by (Some u) q = unit_good (get_or order place 0) u q (unfolded units order ordered place below ∙ ap (optional_stands_for (type_named units) (get_or order place 0)) q) (all u q)

  good_in_order : All (λ i. Good units d (type_at units i)) (take (length order) order)
  good_in_order = all_in_order units order ordered (λ placed i. Good units d (type_at units i)) (λ placed next i is. is) next_good (length order) (omega arith)

  pub good_all : (i : ℕ) → Good units d (type_at units i)
  good_all i = by (unit_at units i) refl where
    by : (o : Option Named) → unit_at units i ≡ o → Good units d (type_at units i)
    by None q = subst (Good units d) (sym (type_once i ∙ ap (optional_stands_for (λ name. stands_for (type_within units (length units)) (standard_of name) (number_of units name)) i) q)) (unknown_good units d)
    by (Some u) q = All-contains (λ j. Good units d (type_at units j)) (take (length order) order) i good_in_order (in_order i u q)

  -- what is specified
  pub specified_good : (s : Specification) → Good units d (specified_base units s)
  specified_good s = base_good s (all_everywhere (λ j. Good units d (type_at units j)) good_all (flat_map (contained units) (references.specified_names s)))

  -- each variable of a unit without faults
  pub declared_variable : (unit : Declares) (v : Declared) → VariableFits units unit v → IsMadeOf (here units d) (variable_shape units unit v) (declared_composition units (inside units) v)
  declared_variable unit v fits =
      variable_made unit v fits (all_everywhere (λ j. Good units d (type_at units j)) good_all (flat_map (contained units) (references.specified_names v.specification)))
