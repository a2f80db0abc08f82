-- The sizes of types, in a table by the numbers of the units that declare them.
use Rattle.std.specs.Prelude.{◌≡◌, ℕ, suc, List, length, get_or, Option, Some, None}
use Rattle.st_leaves.specs.Charts.{LeafBelow}
use Rattle.st_leaves.specs.Leaves.{array_leaves, leaves_within, optional_leaves}
use Rattle.st_leaves.specs.Limits.{sizes_of}
use Rattle.st_references.specs.Graphs.{Refers}
use Rattle.st_references.specs.References.{graph_of}
use Rattle.st_leaves.specs.Sizes.{IsSize}
use Rattle.st_leaves.specs.declared.limited.Size.{Size}
use Rattle.st_types.specs.Names.{Named, unit_at}
use Rattle.st_types.specs.Types.{Elements, elements_in, type_at}
use Rattle.st_types.specs.declared.base.Base.{Base}
use Rattle.st_types.specs.declared.base.Base.TheVariants as bases

-- the leaves of what has this type
abbrev pub type_leaves : List Named → Base → List LeafBelow
type_leaves units base = leaves_within units (suc (length units)) base

-- the unit that declares an array, a structure or a function block
abbrev pub unit_of : Base → Option ℕ
unit_of (bases.Array i) = Some i
unit_of (bases.Structure i) = Some i
unit_of (bases.Block i) = Some i
unit_of _ = None

-- of an array its elements, of a structure its members, of an instance its variables and its chart
abbrev pub made_leaves : List Named → Option Elements → Option Named → List LeafBelow
made_leaves units (Some elements) unit = array_leaves elements.subscripts (type_leaves units elements.element)
made_leaves units None unit = optional_leaves units (type_leaves units) unit

-- the leaves of what has the unit of this number as its type
abbrev pub own_leaves : List Named → ℕ → List LeafBelow
own_leaves units i = made_leaves units (elements_in units (bases.Array i)) (unit_at units i)

abbrev pub size_at : List Size → ℕ → Size
size_at sizes i = get_or sizes i (record { leaves = 0; bytes = 0; longest = 0 })

-- the table has the size of what has this type, where a unit declares it
abbrev pub IsSized : List Named → List Size → Base → Type 0
IsSized units sizes base = (i : ℕ) → unit_of base ≡ Some i → IsSize (size_at sizes i) (sizes_of (type_leaves units base))

-- the table has the sizes of all types to which this unit refers
abbrev pub AreSized : List Named → List Size → ℕ → Type 0
AreSized units sizes unit = (i : ℕ) → Refers (graph_of units) unit i → IsSized units sizes (type_at units i)
