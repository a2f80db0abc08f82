-- What declared types stand for (2.3.3), and what variables are made of (2.4.1).
use Rattle.std.specs.Prelude.{ℕ, zero, suc, Bool, true, false, List, length, Option, Some, None, if◌then◌else◌}
use Rattle.std.specs.Option.{is_some}
use Rattle.st_values.specs.declared.elem.Elem.{Elem}
use Rattle.st_tree.specs.declared.tree.declaration.DeclaredType.TheVariants as declared_types
use Rattle.st_tree.specs.declared.tree.declaration.Specification.{Specification}
use Rattle.st_tree.specs.declared.tree.declaration.Specification.TheVariants as specifications
use Rattle.st_tree.specs.declared.tree.declaration.Subrange.{Subrange}
use Rattle.st_tree.specs.declared.tree.declaration.TypeName.{TypeName}
use Rattle.st_tree.specs.declared.tree.declaration.TypeName.TheVariants as type_names
use Rattle.st_types.specs.Names.{Declares, Named, number_of, unit_at}
use Rattle.st_types.specs.Names as names
use Rattle.st_types.specs.Standard.{standard_of}
use Rattle.st_types.specs.declared.base.Base.{Base}
use Rattle.st_types.specs.declared.base.Base.TheVariants as bases
use Rattle.st_types.specs.declared.standard.Standard.{Standard}
use Rattle.st_types.specs.declared.standard.Standard.TheVariants as standards

abbrev pub is_unknown : Base → Bool
is_unknown bases.Unknown = true
is_unknown _ = false

-- an instance of a function block
abbrev pub is_instance : Base → Bool
is_instance (bases.Block i) = true
is_instance (bases.Standard b) = true
is_instance _ = false

-- the elementary type of what is one value
abbrev pub elem_in : Base → Option Elem
elem_in (bases.Elementary e) = Some e
elem_in _ = None

-- what stands for no type where no instance may stand
abbrev pub without_instance : Base → Base
without_instance base = if is_instance base then bases.Unknown else base

-- an array whose type has this number, of such elements
abbrev pub array_of : ℕ → Base → Base
array_of i element = if is_unknown (without_instance element) then bases.Unknown else bases.Array i

-- ---- what a name stands for, where others are looked up by `type_of`

abbrev pub name_stands_for : (List ℕ → Base) → TypeName → Base
name_stands_for type_of (type_names.Elementary position e) = bases.Elementary e
name_stands_for type_of (type_names.Declared identifier) = type_of identifier.spelling

-- A type that is declared as another one is that one. It stands for no function block.
abbrev pub derived_stands_for : (List ℕ → Base) → ℕ → Specification → Base
derived_stands_for type_of i (specifications.Simple name) = without_instance (name_stands_for type_of name)
derived_stands_for type_of i (specifications.Array position ranges name) = array_of i (name_stands_for type_of name)

-- the unit of this number as a type
abbrev pub unit_stands_for : (List ℕ → Base) → ℕ → Declares → Base
unit_stands_for type_of i (names.type (declared_types.Derived specification initial)) = derived_stands_for type_of i specification
unit_stands_for type_of i (names.type (declared_types.Structure position members)) = bases.Structure i
unit_stands_for type_of i (names.block b) = bases.Block i
unit_stands_for type_of i _ = bases.Unknown

abbrev pub optional_stands_for : (List ℕ → Base) → ℕ → Option Named → Base
optional_stands_for type_of i None = bases.Unknown
optional_stands_for type_of i (Some unit) = unit_stands_for type_of i unit.declares

-- a name that is standard, or else the first unit of this name
abbrev pub stands_for : (ℕ → Base) → Option Standard → Option ℕ → Base
stands_for type_at (Some (standards.Block b)) i = bases.Standard b
stands_for type_at (Some _) i = bases.Unknown
stands_for type_at None None = bases.Unknown
stands_for type_at None (Some i) = type_at i

module _ (units : List Named) where
  -- What the unit of this number stands for as a type, through at most so many others. One that stands for itself is unknown.
  unfoldable pub type_within : ℕ → ℕ → Base
  type_within zero i = bases.Unknown
  type_within (suc more) i = optional_stands_for (λ name. stands_for (type_within more) (standard_of name) (number_of units name)) i (unit_at units i)

  -- what the unit of this number stands for as a type
  unfoldable pub type_at : ℕ → Base
  type_at i = type_within (suc (length units)) i

  -- what a name stands for as a type
  unfoldable pub type_named : List ℕ → Base
  type_named name = stands_for type_at (standard_of name) (number_of units name)

-- ---- what a variable is made of

-- its own subscripts, where it is declared as an array, and what each of its elements is, or else it itself
pub record Shape : Type 0 where
  pub subscripts : Option (List Subrange)
  pub base : Base

abbrev pub plain : Base → Shape
plain base = record { subscripts = None; base = base }

-- what fits every type
abbrev pub unknown : Shape
unknown = plain bases.Unknown

-- an array of such elements
abbrev pub array_shape : List Subrange → Base → Shape
array_shape ranges element = if is_unknown (without_instance element) then unknown else record { subscripts = Some ranges; base = element }

abbrev pub elem_by : Option (List Subrange) → Base → Option Elem
elem_by None base = elem_in base
elem_by (Some ranges) base = None

-- its elementary type, where it is one value
abbrev pub elem_of : Shape → Option Elem
elem_of s = elem_by s.subscripts s.base

abbrev pub is_value : Shape → Bool
is_value s = is_some (elem_of s)

abbrev pub shape_by : (List ℕ → Base) → Specification → Shape
shape_by type_of (specifications.Simple name) = plain (name_stands_for type_of name)
shape_by type_of (specifications.Array position ranges name) = array_shape ranges (name_stands_for type_of name)

-- what is specified
unfoldable pub shape_of : List Named → Specification → Shape
shape_of units specification = shape_by (type_named units) specification

-- ---- the elements of an array

-- the subscripts of an array, and what each of its elements is
pub record Elements : Type 0 where
  pub subscripts : List Subrange
  pub element : Base

abbrev pub specified_elements : List Named → Specification → Option Elements
specified_elements units (specifications.Simple name) = None
specified_elements units (specifications.Array position ranges name) = Some (record { subscripts = ranges; element = name_stands_for (type_named units) name })

abbrev pub declared_elements : List Named → Declares → Option Elements
declared_elements units (names.type (declared_types.Derived specification initial)) = specified_elements units specification
declared_elements units _ = None

abbrev pub optional_elements : List Named → Option Named → Option Elements
optional_elements units None = None
optional_elements units (Some unit) = declared_elements units unit.declares

-- of an array type of the text
abbrev pub elements_in : List Named → Base → Option Elements
elements_in units (bases.Array i) = optional_elements units (unit_at units i)
elements_in units _ = None
