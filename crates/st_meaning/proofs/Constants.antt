-- Constants are values of their types (2.4.3).
use Rattle.std.proofs.Common.{◌≡◌, ℕ, zero, suc, Bool, true, false, ◌&&◌, List, [], ◌∷◌, length, map, Option, Some, None, subst, if◌then◌else◌}
use Rattle.std.specs.Char.{to_ascii_uppercase}
use Rattle.st_values.specs.Values.{IsValue}
use Rattle.st_values.specs.Words.{is_word}
use Rattle.st_values.specs.declared.value.Value.{Value}
use Rattle.st_tree.specs.declared.tree.declaration.DeclaredType.TheVariants as declared_types
use Rattle.st_tree.specs.declared.tree.declaration.Initial.{Initial}
use Rattle.st_tree.specs.declared.tree.declaration.Initial.TheVariants as initials
use Rattle.st_tree.specs.declared.tree.declaration.Subrange.{Subrange}
use Rattle.st_tree.specs.Kinds.{is_constant}
use Rattle.st_types.specs.Compositions.{Composition, unknown, elementary, array, composed, standard, composition_within, declared_composition, elements_composition, optional_composition, started, subscripted, unit_composition}
use Rattle.st_types.specs.Initials.{element_initial, initial_of, number_in, unit_element_initial}
use Rattle.st_types.specs.Names.{Declared, Declares, Named, unit_at, variables_in}
use Rattle.st_types.specs.Names as names
use Rattle.st_types.specs.Types.{Elements, elements_in, shape_of}
use Rattle.st_types.specs.declared.base.Base.{Base}
use Rattle.st_types.specs.declared.base.Base.TheVariants as bases
use Rattle.st_operators.proofs.Results.{wrapped_is}
use Rattle.st_meaning.specs.Wholes.{constant_among, constant_value}
use Rattle.st_leaves.proofs.Begins.{zero_is_value}

-- what holds one value begins with one of its type
abbrev HasValue : Composition → Type 0
HasValue (elementary v) = IsValue v
HasValue _ = Unit {0}

constant_is_value : (c : Composition) (v : Value) → HasValue c → constant_value c ≡ Some v → IsValue v
constant_is_value unknown v h e = cc
constant_is_value (elementary w) v h e = let same : w ≡ v = cc in subst IsValue same h
constant_is_value (array ranges firsts c) v h e = cc
constant_is_value (composed name ms chart) v h e = cc
constant_is_value (standard b) v h e = cc

started_has : (initial : Option Initial) (c : Composition) → HasValue c → HasValue (started initial c)
started_has None c h = h
started_has (Some (initials.Constant v)) unknown h = h
started_has (Some (initials.Constant v)) (elementary w) h = (wrapped_is w.elem (number_in v)).in_range
started_has (Some (initials.Constant v)) (array ranges firsts c) h = h
started_has (Some (initials.Constant v)) (composed name ms chart) h = h
started_has (Some (initials.Constant v)) (standard b) h = h
started_has (Some (initials.Array position items)) unknown h = h
started_has (Some (initials.Array position items)) (elementary w) h = h
started_has (Some (initials.Array position items)) (array ranges firsts c) h = h
started_has (Some (initials.Array position items)) (composed name ms chart) h = h
started_has (Some (initials.Array position items)) (standard b) h = h

subscripted_has : (ranges : Option (List Subrange)) (c : Composition) → HasValue c → HasValue (subscripted ranges c)
subscripted_has None c h = h
subscripted_has (Some ranges) c h = tt

elements_have : (inside : Base → Composition) (initial : Option Initial) (elements : Option Elements) → HasValue (elements_composition inside initial elements)
elements_have inside initial None = tt
elements_have inside initial (Some elements) = tt

unit_has : (units : List Named) (inside : Base → Composition) (name : List ℕ) (unit : Declares) → HasValue (unit_composition units inside name unit)
unit_has units inside name (names.type (declared_types.Structure position members)) = tt
unit_has units inside name (names.type (declared_types.Derived specification initial)) = tt
unit_has units inside name (names.function function) = tt
unit_has units inside name (names.block block) = tt
unit_has units inside name (names.program program) = tt

optional_has : (units : List Named) (inside : Base → Composition) (unit : Option Named) → HasValue (optional_composition units inside unit)
optional_has units inside None = tt
optional_has units inside (Some unit) = unit_has units inside (map to_ascii_uppercase unit.name.spelling) unit.declares

within_has : (units : List Named) (most : ℕ) (base : Base) → HasValue (composition_within units most base)
unfolding composition_within
within_has units zero base = tt
within_has units (suc most) bases.Unknown = tt
within_has units (suc most) (bases.Elementary e) = zero_is_value e
within_has units (suc most) (bases.Array i) = elements_have (composition_within units most) (unit_element_initial units (unit_at units i)) (elements_in units (bases.Array i))
within_has units (suc most) (bases.Structure i) = optional_has units (composition_within units most) (unit_at units i)
within_has units (suc most) (bases.Block i) = optional_has units (composition_within units most) (unit_at units i)
within_has units (suc most) (bases.Standard b) = tt

declared_has : (units : List Named) (most : ℕ) (v : Declared) → HasValue (declared_composition units (composition_within units most) v)
declared_has units most v =
    let base = composition_within units most (shape_of units v.specification).base in
    started_has (initial_of units v) (subscripted (shape_of units v.specification).subscripts (started (element_initial units v.specification) base))
    (subscripted_has (shape_of units v.specification).subscripts (started (element_initial units v.specification) base)
    (started_has (element_initial units v.specification) base (within_has units most (shape_of units v.specification).base)))

among_has : (inside : Declared → Composition) → ((v : Declared) → HasValue (inside v)) → (vs : List Declared) (name : List ℕ) (value : Value) → constant_among inside vs name ≡ Some value → IsValue value
among_has inside has [] name value h = cc
among_has inside has (v ∷ vs) name value h = by (is_constant v.kind && is_word v.name.spelling name) h (among_has inside has vs name value) where
  by : (b : Bool) → (if b then constant_value (inside v) else constant_among inside vs name) ≡ Some value → (constant_among inside vs name ≡ Some value → IsValue value) → IsValue value
  by true h more = constant_is_value (inside v) value (has v) h
  by false h more = more h

-- the constants of a unit, whatever its variables consist of
pub constants_have : (units : List Named) (unit : Declares) (name : List ℕ) (value : Value)
    → constant_among (declared_composition units (composition_within units (suc (length units)))) (variables_in unit) name ≡ Some value → IsValue value
constants_have units unit name value h =
    among_has (declared_composition units (composition_within units (suc (length units)))) (declared_has units (suc (length units))) (variables_in unit) name value h
