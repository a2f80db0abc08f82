-- With which values variables begin (2.4.2): the value that is written, or else that of the type (2.3.3.1).
use Rattle.std.specs.Prelude.{ℕ, zero, suc, if◌then◌else◌, ℤ, pos, List, [], ◌∷◌, replicate, length, Option, Some, None}
use Rattle.std.specs.List.{flat_map}
use Rattle.st_values.specs.Numbers.{capped, negative}
use Rattle.st_values.specs.Values.{wrapped}
use Rattle.st_values.specs.declared.elem.Elem.{Elem}
use Rattle.st_values.specs.declared.value.Value.{Value}
use Rattle.st_tree.specs.declared.tree.constant.Constant.{Constant}
use Rattle.st_tree.specs.declared.tree.constant.Constant.TheVariants as constants
use Rattle.st_tree.specs.declared.tree.constant.SignedInteger.{SignedInteger}
use Rattle.st_tree.specs.declared.tree.declaration.ArrayElement.{ArrayElement}
use Rattle.st_tree.specs.declared.tree.declaration.ArrayElement.TheVariants as array_elements
use Rattle.st_tree.specs.declared.tree.declaration.DeclaredType.TheVariants as declared_types
use Rattle.st_tree.specs.declared.tree.declaration.Initial.{Initial}
use Rattle.st_tree.specs.declared.tree.declaration.Specification.{Specification}
use Rattle.st_tree.specs.declared.tree.declaration.Specification.TheVariants as specifications
use Rattle.st_tree.specs.declared.tree.declaration.TypeName.{TypeName}
use Rattle.st_tree.specs.declared.tree.declaration.TypeName.TheVariants as type_names
use Rattle.st_types.specs.Names.{Declared, Declares, Named, number_of, unit_at}
use Rattle.st_types.specs.Names as names
use Rattle.st_types.specs.Standard.{standard_of}
use Rattle.st_types.specs.declared.standard.Standard.{Standard}

-- ---- literals

-- the number that is written
abbrev pub integer_of : SignedInteger → ℤ
integer_of n = if n.is_negative then negative (capped n.magnitude) else pos (capped n.magnitude)

abbrev pub number_in : Constant → ℤ
number_in (constants.Integer n) = integer_of n
number_in (constants.Typed position value) = value.bits
number_in (constants.Duration d) = d.milliseconds
number_in (constants.Bool position b) = if b then pos 1 else pos 0

-- the value of a type that is written. In a checked program each literal lies in the range of its type, and nothing is wrapped.
abbrev pub value_written : Elem → Constant → Value
value_written e c = wrapped e (number_in c)

-- the value of a type where none is written
abbrev pub zero_of : Elem → Value
zero_of e = record { elem = e; bits = pos 0 }

-- ---- lists: the first elements of an array, each with its value where one is written

abbrev pub values_in : ArrayElement → List (Option Constant)
values_in (array_elements.Single c) = Some c ∷ []
values_in (array_elements.Repeated position n c) = replicate n c

abbrev pub first_values : List ArrayElement → List (Option Constant)
first_values items = flat_map values_in items

-- ---- initial values of types

-- what is written first: at the declaration itself, or at a type that it names
abbrev pub written_or : Option (Option Initial) → Option Initial → Option (Option Initial)
written_or other (Some initial) = Some (Some initial)
written_or other None = other

abbrev pub standing_initial : (ℕ → Option (Option Initial)) → Option Standard → Option ℕ → Option (Option Initial)
standing_initial type_initial None (Some i) = type_initial i
standing_initial type_initial _ _ = Some None

module _ (units : List Named) where
  -- of what a type is named as, where the types of units have these
  abbrev pub name_initial : (ℕ → Option (Option Initial)) → TypeName → Option (Option Initial)
  name_initial type_initial (type_names.Elementary position e) = Some None
  name_initial type_initial (type_names.Declared t) = standing_initial type_initial (standard_of t.spelling) (number_of units t.spelling)

  abbrev pub specified_initial : (ℕ → Option (Option Initial)) → Specification → Option (Option Initial)
  specified_initial type_initial (specifications.Simple name) = name_initial type_initial name
  specified_initial type_initial (specifications.Array position ranges name) = Some None

  abbrev pub declares_initial : (ℕ → Option (Option Initial)) → Declares → Option (Option Initial)
  declares_initial type_initial (names.type (declared_types.Derived specification initial)) = written_or (specified_initial type_initial specification) initial
  declares_initial type_initial _ = Some None

  abbrev pub unit_initial : (ℕ → Option (Option Initial)) → Option Named → Option (Option Initial)
  unit_initial type_initial None = Some None
  unit_initial type_initial (Some unit) = declares_initial type_initial unit.declares

  -- The initial value of what has the type of this number: `Some None` where none is written, and `None` where more than so many
  -- types are named one after the other.
  unfoldable pub initial_within : ℕ → ℕ → Option (Option Initial)
  initial_within zero i = None
  initial_within (suc more) i = unit_initial (initial_within more) (unit_at units i)

  abbrev pub known : Option (Option Initial) → Option Initial
  known (Some initial) = initial
  known None = None

  -- the initial value of what has the type of this number, where one is written
  unfoldable pub initial_at : ℕ → Option (Option Initial)
  initial_at i = initial_within (suc (length units)) i

  -- of what has a type of this name
  abbrev pub initial_named : TypeName → Option Initial
  initial_named name = known (name_initial initial_at name)

  -- of a declared name
  abbrev pub initial_of : Declared → Option Initial
  initial_of v = known (written_or (specified_initial initial_at v.specification) v.initial)

  -- of each element of what is declared as an array
  abbrev pub element_initial : Specification → Option Initial
  element_initial (specifications.Simple name) = None
  element_initial (specifications.Array position ranges name) = initial_named name

  abbrev pub declares_element_initial : Declares → Option Initial
  declares_element_initial (names.type (declared_types.Derived specification initial)) = element_initial specification
  declares_element_initial _ = None

  -- of each element of an array type
  abbrev pub unit_element_initial : Option Named → Option Initial
  unit_element_initial None = None
  unit_element_initial (Some unit) = declares_element_initial unit.declares
