-- Constants by their names, and their values.
use Rattle.std.proofs.Common.{◌≡◌, ℕ, suc, Bool, true, false, ◌&&◌, if◌then◌else◌, List, [], ◌∷◌, ◌++◌, map, Option, Some, None, IfSome, refl, ap, sym, ◌∙◌, subst}
use Rattle.std.specs.List.{slice_get}
use Rattle.std.specs.Option.{option_map}
use Rattle.std.proofs.lemmas.Option.{same_Some}
use Rattle.st_types.specs.Tables.{first_of}
use Rattle.st_scopes.specs.Declarations.{spellings_of}
use Rattle.st_tree.specs.declared.tree.declaration.Declaration.{Declaration}
use Rattle.st_tree.specs.declared.tree.declaration.DeclaredType.TheVariants as declared_types
use Rattle.st_tree.specs.declared.tree.declaration.Initial.{Initial}
use Rattle.st_tree.specs.declared.tree.declaration.Initial.TheVariants as initials
use Rattle.st_tree.specs.declared.tree.declaration.VarKind.TheVariants as var_kinds
use Rattle.st_tree.specs.declared.tree.position.Identifier.{Identifier}
use Rattle.st_types.proofs.Cases.{by_test}
use Rattle.st_tree.specs.Kinds.{is_constant}
use Rattle.st_types.specs.Compositions.{declared_composition, elementary, started}
use Rattle.st_types.specs.Initials.{initial_of, zero_of}
use Rattle.st_types.specs.Names.{Declared, Declares, Named, members_of, unit_at, units_of, variables_in}
use Rattle.st_types.specs.Names as names
use Rattle.st_types.specs.Types.{elem_of, shape_of}
use Rattle.st_values.specs.Values.{IsValue}
use Rattle.st_values.specs.Words.{is_word}
use Rattle.st_values.specs.declared.elem.Elem.{Elem}
use Rattle.st_values.specs.declared.value.Value.{Value}
use Rattle.st_leaves.proofs.Wrapped.{wrapped_is_value}
use Rattle.st_leaves.proofs.Begins.{zero_is_value}
use Rattle.st_meaning.specs.Units.{unit_whole}
use Rattle.st_meaning.specs.Wholes.{constant_among, constant_value}
use Rattle.st_places.specs.Contents.{AreOf}
use Rattle.st_places.specs.Members.{value_declared}
use Rattle.st_places.specs.Parts.{TablesView, constants_among, inside, optional_whole, own_names, own_names_at, whole_in}
use Rattle.st_places.specs.declared.unit.UnitParts.{UnitParts}
use Rattle.st_places.proofs.Entries.{no_value, value_at}
use Rattle.st_places.proofs.Lookups.{position-here, position-next}
use Rattle.st_places.proofs.Contents.{missing}
use Rattle.st_places.proofs.MemberContents.{names_by}

-- ---- a structure has no constants

no_constant : (d : Declaration) (ns : List Identifier) (rest : List Declared)
    → constants_among (map {B = Declared} (λ n. record { name = n; kind = var_kinds.Internal; specification = d.specification; initial = d.initial }) ns ++ rest) ≡ constants_among rest
no_constant d [] rest = refl
no_constant d (n ∷ ns) rest = no_constant d ns rest

no_constants : (ds : List Declaration) → constants_among (members_of ds) ≡ []
no_constants [] = refl
no_constants (d ∷ ds) = no_constant d d.names (members_of ds) ∙ no_constants ds

same_constants : (unit : Declares) → constants_among (own_names unit) ≡ constants_among (variables_in unit)
same_constants (names.type (declared_types.Derived specification initial)) = refl
same_constants (names.type (declared_types.Structure position members)) = no_constants members
same_constants (names.function f) = refl
same_constants (names.block b) = refl
same_constants (names.program p) = refl

module _ (units : List Named) where
  -- the value of the first of these with this name
  abbrev value_among : List Declared → List ℕ → Option Value
  value_among [] name = None
  value_among (v ∷ vs) name = if is_word v.name.spelling name then value_declared units v else value_among vs name

  one_constant : (b w : Bool) (v : Declared) (name : List ℕ) (cs : List Declared) (rest : Option Value) → is_word v.name.spelling name ≡ w → rest ≡ value_among cs name
      → (if b && w then value_declared units v else rest) ≡ value_among (if b then v ∷ cs else cs) name
  one_constant true w v name cs rest is same =
      ap (λ o. if w then value_declared units v else o) same ∙ ap (λ x. if x then value_declared units v else value_among cs name) (sym is)
  one_constant false w v name cs rest is same = same

  among : (vs : List Declared) (name : List ℕ) → constant_among (declared_composition units (inside units)) vs name ≡ value_among (constants_among vs) name
  among [] name = refl
  among (v ∷ vs) name =
      one_constant (is_constant v.kind) (is_word v.name.spelling name) v name (constants_among vs) (constant_among (declared_composition units (inside units)) vs name) refl (among vs name)

  abbrev IsValueAt : List Declared → Option Value → Option ℕ → Type 0
  IsValueAt vs found None = found ≡ None
  IsValueAt vs found (Some k) = slice_get (map (value_declared units) vs) k ≡ Some found

  next_value : (v : Declared) (vs : List Declared) (found : Option Value) (k : Option ℕ) → IsValueAt vs found k → IsValueAt (v ∷ vs) found (option_map suc k)
  next_value v vs found None is = is
  next_value v vs found (Some k) is = is

  at_number : (vs : List Declared) (name : List ℕ) → IsValueAt vs (value_among vs name) (first_of (spellings_of vs) name)
  at_number [] name = refl
  at_number (v ∷ vs) name =
      by_test (is_word v.name.spelling name)
      (λ t.
      subst (IsValueAt (v ∷ vs) (value_among (v ∷ vs) name)) (sym (position-here (λ n. is_word n name) v.name.spelling (spellings_of vs) t))
      (subst (λ b. Some (value_declared units v) ≡ Some (if b then value_declared units v else value_among vs name)) (sym t) refl))
      (λ t.
      subst (IsValueAt (v ∷ vs) (value_among (v ∷ vs) name)) (sym (position-next (λ n. is_word n name) v.name.spelling (spellings_of vs) t))
      (subst (λ b. IsValueAt (v ∷ vs) (if b then value_declared units v else value_among vs name) (option_map suc (first_of (spellings_of vs) name))) (sym t)
      (next_value v vs (value_among vs name) (first_of (spellings_of vs) name) (at_number vs name))))

  -- ---- in the tables

  constants_of : (u : Option Named) (name : List ℕ) → (optional_whole units u).constants name ≡ value_among (constants_among (names_by units u)) name
  unfolding unit_whole
  constants_of None name = refl
  constants_of (Some u) name = among (variables_in u.declares) name ∙ ap (λ vs. value_among vs name) (sym (same_constants u.declares))

  module _ (all : List UnitParts) (are : AreOf units all) where
    pub no_unit : (i : ℕ) (name : List ℕ) → slice_get all i ≡ None → None ≡ (optional_whole units (unit_at units i)).constants name
    no_unit i name is = sym (ap (λ u. (optional_whole units u).constants name) (missing units all are i is))

    found : (i : ℕ) (parts : UnitParts) (name : List ℕ) → slice_get all i ≡ Some parts
        → IsValueAt (constants_among (own_names_at units i)) (value_among (constants_among (own_names_at units i)) name) (first_of parts.constants.names name)
    found i parts name is =
        subst (λ ns. IsValueAt (constants_among (own_names_at units i)) (value_among (constants_among (own_names_at units i)) name) (first_of ns name)) (sym (are.each i parts is).names.constants.names)
        (at_number (constants_among (own_names_at units i)) name)

    pub no_name : (i : ℕ) (parts : UnitParts) (name : List ℕ) → slice_get all i ≡ Some parts → first_of parts.constants.names name ≡ None
        → None ≡ (optional_whole units (unit_at units i)).constants name
    no_name i parts name is none =
        sym (constants_of (unit_at units i) name
        ∙ subst (IsValueAt (constants_among (own_names_at units i)) (value_among (constants_among (own_names_at units i)) name)) none (found i parts name is))

    read : (i : ℕ) (parts : UnitParts) (name : List ℕ) (k : ℕ) → slice_get all i ≡ Some parts → first_of parts.constants.names name ≡ Some k
        → slice_get parts.constants.values k ≡ Some ((optional_whole units (unit_at units i)).constants name)
    read i parts name k is at =
        ap (λ values. slice_get values k) (are.each i parts is).names.constants.values
        ∙ subst (IsValueAt (constants_among (own_names_at units i)) (value_among (constants_among (own_names_at units i)) name)) at (found i parts name is)
        ∙ ap (λ v. Some v) (sym (constants_of (unit_at units i) name))

    pub one_value : (i : ℕ) (parts : UnitParts) (name : List ℕ) (k : ℕ) (v : Option Value) → slice_get all i ≡ Some parts → first_of parts.constants.names name ≡ Some k
        → slice_get parts.constants.values k ≡ Some v → v ≡ (optional_whole units (unit_at units i)).constants name
    one_value i parts name k v is at there = same_Some v _ (sym there ∙ read i parts name k is at)

    pub not_past : (i : ℕ) (parts : UnitParts) (name : List ℕ) (k : ℕ) {A : Type 0} → slice_get all i ≡ Some parts → first_of parts.constants.names name ≡ Some k
        → slice_get parts.constants.values k ≡ None → A
    not_past i parts name k is at none = let there = read i parts name k is at in absurd (cc)

  -- ---- values lie in the ranges of their types

  started_is_value : (initial : Option Initial) (e : Elem) (x : Value) → constant_value (started initial (elementary (zero_of e))) ≡ Some x → IsValue x
  started_is_value None e x is = subst IsValue (same_Some _ x is) (zero_is_value e)
  started_is_value (Some (initials.Constant k)) e x is = subst IsValue (same_Some _ x is) (wrapped_is_value e _)
  started_is_value (Some (initials.Array position items)) e x is = subst IsValue (same_Some _ x is) (zero_is_value e)

  by_elem : (v : Declared) (o : Option Elem) (x : Value) → elem_of (shape_of units v.specification) ≡ o → value_declared units v ≡ Some x → IsValue x
  by_elem v None x at is = let none : value_declared units v ≡ None = no_value units v at in absurd (cc)
  by_elem v (Some e) x at is = started_is_value (initial_of units v) e x (sym (value_at units v e at) ∙ is)

  pub value_is_value : (v : Declared) (x : Value) → value_declared units v ≡ Some x → IsValue x
  value_is_value v x is = by_elem v (elem_of (shape_of units v.specification)) x refl is

  among_is_value : (vs : List Declared) (name : List ℕ) (x : Value) → value_among vs name ≡ Some x → IsValue x
  among_is_value [] name x is = absurd (cc)
  among_is_value (v ∷ vs) name x is =
      by_test (is_word v.name.spelling name)
      (λ t. by_elem v (elem_of (shape_of units v.specification)) x refl (sym (ap (λ b. if b then value_declared units v else value_among vs name) t) ∙ is))
      (λ t. among_is_value vs name x (sym (ap (λ b. if b then value_declared units v else value_among vs name) t) ∙ is))

  pub constant_is_value : (u : Option Named) (name : List ℕ) (x : Value) → (optional_whole units u).constants name ≡ Some x → IsValue x
  constant_is_value u name x is = among_is_value (constants_among (names_by units u)) name x (sym (constants_of u name) ∙ is)

-- ---- in tables

pub value_clause : (s t : TablesView) (unit : ℕ) (name : List ℕ) (r : Option Value) → s ≡ t → r ≡ (optional_whole (units_of s.text) (unit_at (units_of s.text) unit)).constants name → r ≡ (whole_in t unit).constants name
unfolding whole_in
value_clause s t unit name r same is = is ∙ ap (λ (x : TablesView). (optional_whole (units_of x.text) (unit_at (units_of x.text) unit)).constants name) same

in_range : (units : List Named) (u : Option Named) (name : List ℕ) (r : Option Value) → r ≡ (optional_whole units u).constants name → IfSome r (λ v. IsValue v)
in_range units u name None is = tt
in_range units u name (Some v) is = constant_is_value units u name v (sym is)

pub values_clause : (s : TablesView) (unit : ℕ) (name : List ℕ) (r : Option Value) → r ≡ (optional_whole (units_of s.text) (unit_at (units_of s.text) unit)).constants name → IfSome r (λ v. IsValue v)
values_clause s unit name r is = in_range (units_of s.text) (unit_at (units_of s.text) unit) name r is
