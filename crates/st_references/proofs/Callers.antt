-- What is called in a unit, as its names are looked up.
use Rattle.std.proofs.Common.{◌≡◌, ◌∙◌, ℕ, zero, suc, Bool, true, false, ◌||◌, List, [], ◌∷◌, ◌++◌, map, get_or, Option, Some, None, refl, ap, sym, append-nil, if◌then◌else◌}
use Rattle.std.specs.List.{flat_map, list_any}
use Rattle.st_tree.specs.declared.tree.unit.Unit.{Unit as Section}
use Rattle.st_types.specs.Inside.{declared_by, named_by}
use Rattle.st_types.specs.Names.{Declares, Named, number_of, unit_at, unit_by, units_of}
use Rattle.st_types.specs.Names as names
use Rattle.st_types.specs.Scopes.{Scope, base_callee, callee_named, global_callee, is_missing, optional_callee, optional_scope, scope_at, scope_of, shape_callee, symbol_callee, unit_callee, variable_named}
use Rattle.st_types.specs.Standard.{standard_of}
use Rattle.st_types.specs.declared.base.Base.{Base}
use Rattle.st_types.specs.declared.base.Base.TheVariants as bases
use Rattle.st_types.specs.declared.standard.Standard.{Standard}
use Rattle.st_types.specs.declared.standard.Standard.TheVariants as standards
use Rattle.st_types.specs.declared.symbol.Callee.{Callee}
use Rattle.st_types.specs.declared.symbol.Callee.TheVariants as callees
use Rattle.st_types.specs.declared.symbol.Symbol.{Symbol}
use Rattle.st_types.specs.declared.unit.NamedUnit.{NamedUnit}
use Rattle.st_tree.specs.declared.tree.declaration.Subrange.{Subrange}
use Rattle.st_references.specs.Callers.{called_by, has_functions, is_function}
use Rattle.st_references.specs.Calls.{unit_calls}
use Rattle.st_references.specs.References.{called, contained, graph_of, is_own, listed, references, unit_types}
use Rattle.st_references.specs.declared.caller.Caller.{Caller}
use Rattle.st_references.proofs.Units.{made_of_unit}

abbrev called_of : List Named → Scope → List ℕ → List ℕ
called_of units scope name = if is_own (scope.callee name) then listed (number_of units name) else []

scope_of_unit : (caller : Caller) (i : ℕ) (u : Named) → caller.scope ≡ (caller.tables.now, i) → unit_at (units_of caller.tables.now) i ≡ Some u
    → scope_at caller.scope ≡ scope_of (units_of caller.tables.now) u.declares
unfolding scope_at
scope_of_unit caller i u scope unit = ap scope_at scope ∙ ap (optional_scope (units_of caller.tables.now)) unit

called_by_scope : (caller : Caller) (scope : Scope) (name : List ℕ) → scope_at caller.scope ≡ scope → called_by caller name ≡ called_of (units_of caller.tables.now) scope name
unfolding called_by
called_by_scope caller scope name is = ap (λ s. called_of (units_of caller.tables.now) s name) is

called_in_unit : (units : List Named) (unit : Declares) (name : List ℕ) → called_of units (scope_of units unit) name ≡ called units unit name
unfolding scope_of
called_in_unit units unit name = refl

-- the unit calls what is found in its scope
pub called_by_unit : (caller : Caller) (i : ℕ) (u : Named) → caller.scope ≡ (caller.tables.now, i) → unit_at (units_of caller.tables.now) i ≡ Some u
    → called_by caller ≡ called (units_of caller.tables.now) u.declares
called_by_unit caller i u scope unit = λ k name.
    (called_by_scope caller (scope_of (units_of caller.tables.now) u.declares) name (scope_of_unit caller i u scope unit)
    ∙ called_in_unit (units_of caller.tables.now) u.declares name) k

-- what a unit contains, and then what it calls, is its row of the graph
pub row_done : (caller : Caller) (i : ℕ) (u : Named) (row row1 row2 : List ℕ)
    → caller.scope ≡ (caller.tables.now, i) → unit_at (units_of caller.tables.now) i ≡ Some u → row ≡ []
    → row1 ≡ row ++ flat_map (contained (units_of caller.tables.now)) (unit_types u.declares) → row2 ≡ row1 ++ flat_map (called_by caller) (unit_calls u.declares)
    → row2 ≡ get_or (graph_of (units_of caller.tables.now)) i []
row_done caller i u row row1 row2 scope unit empty contains calls =
    calls ∙ ap (λ r. r ++ flat_map (called_by caller) (unit_calls u.declares)) (contains ∙ ap (λ r. r ++ flat_map (contained (units_of caller.tables.now)) (unit_types u.declares)) empty)
    ∙ ap (λ f. flat_map (contained (units_of caller.tables.now)) (unit_types u.declares) ++ flat_map f (unit_calls u.declares)) (called_by_unit caller i u scope unit)
    ∙ sym (made_of_unit (λ v. references (units_of caller.tables.now) v.declares) (units_of caller.tables.now) i u unit)

-- ---- a text without functions

named_functions : (units : List NamedUnit) → list_any (λ unit. is_function (declared_by unit.kind)) units ≡ has_functions (map named_by units)
named_functions [] = refl
named_functions (u ∷ us) = ap (λ b. is_function (declared_by u.kind) || b) (named_functions us)

-- units are functions as they are seen
pub functions_seen : (units : List NamedUnit) (all : List Named) → map named_by units ≡ all
    → list_any (λ unit. is_function (declared_by unit.kind)) units ≡ has_functions all
functions_seen units all same = named_functions units ∙ ap has_functions same

or_left : (a b : Bool) → false ≡ (a || b) → a ≡ false
or_left true b h = absurd cc
or_left false b h = refl

or_right : (a b : Bool) → false ≡ (a || b) → false ≡ b
or_right true b h = absurd cc
or_right false b h = h

no_function : (units : List Named) (i : ℕ) (u : Named) → false ≡ has_functions units → unit_at units i ≡ Some u → is_function u.declares ≡ false
no_function [] i u none is = absurd cc
no_function (v ∷ vs) zero u none is =
    let same : v ≡ u = cc in
    ap (λ w. is_function w.declares) (sym same) ∙ or_left (is_function v.declares) (has_functions vs) none
no_function (v ∷ vs) (suc i) u none is = no_function vs i u (or_right (is_function v.declares) (has_functions vs) none) is

no_unit_callee : (units : List Named) (unit : Declares) → is_function unit ≡ false → is_own (unit_callee units unit) ≡ false
no_unit_callee units (names.function f) h = absurd cc
no_unit_callee units (names.type d) h = refl
no_unit_callee units (names.block b) h = refl
no_unit_callee units (names.program p) h = refl

no_optional_callee : (units : List Named) (found : Option Named) → ((u : Named) → found ≡ Some u → is_function u.declares ≡ false)
    → is_own (optional_callee units found) ≡ false
no_optional_callee units None h = refl
no_optional_callee units (Some u) h = no_unit_callee units u.declares (h u refl)

no_numbered_callee : (units : List Named) (number : Option ℕ) → false ≡ has_functions units → is_own (optional_callee units (unit_by units number)) ≡ false
no_numbered_callee units None none = refl
no_numbered_callee units (Some i) none = no_optional_callee units (unit_at units i) (λ u is. no_function units i u none is)

no_global_callee : (units : List Named) (name : List ℕ) (standard : Option Standard) → false ≡ has_functions units
    → is_own (global_callee units name standard) ≡ false
no_global_callee units name (Some (standards.Function f)) none = refl
no_global_callee units name (Some (standards.Conversion x y)) none = refl
no_global_callee units name (Some (standards.Block b)) none = refl
no_global_callee units name None none = no_numbered_callee units (number_of units name) none

no_choice : (b : Bool) (x y : Callee) → is_own x ≡ false → is_own y ≡ false → is_own (if b then x else y) ≡ false
no_choice true x y h k = h
no_choice false x y h k = k

no_base_callee : (other : Callee) (base : Base) → is_own other ≡ false → is_own (base_callee other base) ≡ false
no_base_callee other (bases.Block i) h = refl
no_base_callee other (bases.Standard b) h = refl
no_base_callee other bases.Unknown h = no_choice (is_missing other) callees.Faulty other refl h
no_base_callee other (bases.Elementary e) h = h
no_base_callee other (bases.Array i) h = h
no_base_callee other (bases.Structure i) h = h

no_shape_callee : (other : Callee) (subscripts : Option (List Subrange)) (base : Base) → is_own other ≡ false
    → is_own (shape_callee other subscripts base) ≡ false
no_shape_callee other None base h = no_base_callee other base h
no_shape_callee other (Some ranges) base h = h

no_symbol_callee : (other : Callee) (symbol : Option Symbol) → is_own other ≡ false → is_own (symbol_callee other symbol) ≡ false
no_symbol_callee other None h = h
no_symbol_callee other (Some s) h = no_shape_callee other s.shape.subscripts s.shape.base h

no_callee : (units : List Named) (unit : Declares) (name : List ℕ) → false ≡ has_functions units → is_own (callee_named units unit name) ≡ false
unfolding callee_named
no_callee units unit name none =
    no_symbol_callee (global_callee units name (standard_of name)) (variable_named units unit name) (no_global_callee units name (standard_of name) none)

no_scoped_callee : (units : List Named) (found : Option Named) (name : List ℕ) → false ≡ has_functions units
    → is_own ((optional_scope units found).callee name) ≡ false
unfolding scope_of
no_scoped_callee units None name none = refl
no_scoped_callee units (Some u) name none = no_callee units u.declares name none

unlisted : (b : Bool) (numbers : List ℕ) → b ≡ false → (if b then numbers else []) ≡ []
unlisted true numbers h = absurd cc
unlisted false numbers h = refl

never_called : (text : List Section) (caller : Caller) (name : List ℕ) → caller.scope.0 ≡ text → false ≡ has_functions (units_of text) → called_by caller name ≡ []
unfolding called_by scope_at
never_called text caller name scope none =
    unlisted (is_own ((scope_at caller.scope).callee name)) (listed (number_of (units_of caller.tables.now) name))
    (no_scoped_callee (units_of caller.scope.0) (unit_at (units_of caller.scope.0) caller.scope.1) name (none ∙ ap (λ t. has_functions (units_of t)) (sym scope)))

nothing_mapped : {A B : Type 0} (f : A → List B) (xs : List A) → ((x : A) → f x ≡ []) → flat_map f xs ≡ []
nothing_mapped f [] h = refl
nothing_mapped f (x ∷ xs) h = ap (λ ys. ys ++ flat_map f xs) (h x) ∙ nothing_mapped f xs h

-- a text without functions calls none
pub none_called : (caller : Caller) (row : List ℕ) (called : List (List ℕ)) → caller.scope.0 ≡ caller.tables.now → false ≡ has_functions (units_of caller.tables.now)
    → row ≡ row ++ flat_map (called_by caller) called
none_called caller row called scope none =
    sym (ap (λ r. row ++ r) (nothing_mapped (called_by caller) called (λ name. never_called caller.tables.now caller name scope none)) ∙ append-nil row)
