-- What variables begin with, by cases (2.4.2): the value that is written, or the values of a list.
use Rattle.std.specs.List.{AllByRecursion as Each, sum_by}
use Rattle.std.specs.Prelude.{◌≡◌, ℕ, false, List, [], ◌∷◌, Option, Some, None}
use Rattle.st_values.specs.declared.elem.Elem.{Elem}
use Rattle.st_values.specs.declared.value.Value.{Value}
use Rattle.st_tree.specs.declared.tree.constant.Constant.{Constant}
use Rattle.st_tree.specs.declared.tree.declaration.ArrayElement.{ArrayElement}
use Rattle.st_tree.specs.declared.tree.declaration.DeclaredType.TheVariants as declared_types
use Rattle.st_tree.specs.declared.tree.declaration.Initial.{Initial}
use Rattle.st_tree.specs.declared.tree.declaration.Initial.TheVariants as initials
use Rattle.st_tree.specs.declared.tree.declaration.Specification.TheVariants as specifications
use Rattle.st_tree.specs.declared.tree.declaration.Subrange.{Subrange}
use Rattle.st_tree.specs.declared.tree.declaration.TypeName.{TypeName}
use Rattle.st_tree.specs.declared.tree.position.Position.{Position}
use Rattle.st_tree.specs.declared.tree.unit.Unit.{Unit as Section}
use Rattle.st_types.specs.Compositions.{Composition, elementary, array, declared_composition, specified_composition, started}
use Rattle.st_types.specs.Initials.{element_initial, first_values, initial_at, initial_named, initial_of, name_initial, specified_initial, written_or}
use Rattle.st_types.specs.Names.{Declared, Declares, Named, members_of, unit_at, units_of, variables_in}
use Rattle.st_types.specs.Names as names
use Rattle.st_types.specs.Types.{shape_of}
use Rattle.st_leaves.specs.Selected.{value_type}
use Rattle.st_check_units.specs.Declarations.{item_size}
use Rattle.st_check_units.specs.Subscripts.{array_size, is_more}
use Rattle.st_check.specs.Programs.{IsOrdered}
use Rattle.st_places.specs.Parts.{inside}
use Rattle.st_compile.specs.Terms.{IsLiteral}

-- the first elements of an array: each begins as it is, or with a literal of its type
pub data AreElements (c : Composition) : List (Option Constant) → Type 0 where
  no_element : AreElements c []
  unwritten_then : {os : List (Option Constant)} → AreElements c os → AreElements c (None ∷ os)
  written_then : {e : Elem} {k : Constant} {v : Value} {os : List (Option Constant)} → value_type c ≡ Some e → IsLiteral e k v
      → AreElements c os → AreElements c (Some k ∷ os)

-- With this initial value what begins as the one composition begins as the other.
pub data IsBegun : Option Initial → Composition → Composition → Type 0 where
  unwritten : {c : Composition} → IsBegun None c c
  literal : {k : Constant} {v u : Value} → IsLiteral v.elem k u → IsBegun (Some (initials.Constant k)) (elementary v) (elementary u)
  -- no more values than there are elements
  list : (position : Position) {items : List ArrayElement} {ranges : List Subrange} {firsts : List (Option Constant)} {c : Composition}
      → is_more (sum_by item_size items) (array_size ranges) ≡ false
      → AreElements c (first_values items)
      → IsBegun (Some (initials.Array position items)) (array ranges firsts c) (array ranges (first_values items) c)

-- A declared name has a value of its own, or else that of its type, whose look-up ends; and each of its elements, where it is declared
-- as an array, has that of their type.
pub record IsBegunStrictly (units : List Named) (v : Declared) : Type 0 where
  pub found : written_or (specified_initial units (initial_at units) v.specification) v.initial ≡ Some (initial_of units v)
  pub elements_found : (position : Position) (ranges : List Subrange) (t : TypeName)
      → v.specification ≡ specifications.Array position ranges t
      → name_initial units (initial_at units) t ≡ Some (initial_named units t)
  pub whole : IsBegun (initial_of units v) (specified_composition units (inside units) v) (declared_composition units (inside units) v)
  pub elements : IsBegun (element_initial units v.specification) (inside units (shape_of units v.specification).base) (started (element_initial units v.specification) (inside units (shape_of units v.specification).base))

-- what a unit declares
abbrev pub all_declared : Declares → List Declared
all_declared (names.type (declared_types.Structure position members)) = members_of members
all_declared unit = variables_in unit

-- In a text without faults, in whose units none contains or calls itself, all that is declared begins so: no initial value is dropped.
abbrev pub InitialsAreStrict : Type 0
InitialsAreStrict = (text : List Section) (order : List ℕ) → IsOrdered text order → (i : ℕ) (u : Named)
    → unit_at (units_of text) i ≡ Some u
    → Each (IsBegunStrictly (units_of text)) (all_declared u.declares)
