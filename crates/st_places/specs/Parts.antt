-- What the parts of variables consist of, by what they are parts of.
use Rattle.std.specs.Prelude.{ℕ, suc, ◌<◌, ◌&&◌, nat_le, Bool, true, false, List, [], ◌∷◌, ◌++◌, length, Option, Some, None, if◌then◌else◌}
use Rattle.std.specs.List.{slice_get}
use Rattle.std.specs.Option.{option_map_or}
use Rattle.st_tree.specs.declared.tree.unit.ChartElement.{ChartElement}
use Rattle.st_tree.specs.declared.tree.unit.Unit.{Unit as Section}
use Rattle.st_tree.specs.Kinds.{is_constant}
use Rattle.st_types.specs.Compositions.{Composition, array, elementary, unknown, composition_within, declared_composition, elements_composition, started}
use Rattle.st_types.specs.Initials.{element_initial, unit_element_initial, zero_of}
use Rattle.st_types.specs.Inside.{declares_at}
use Rattle.st_types.specs.Names.{Declared, Declares, Named, chart_in, unit_at, units_of}
use Rattle.st_types.specs.Names as names
use Rattle.st_types.specs.Types.{elements_in, shape_of}
use Rattle.st_types.specs.declared.base.Base.{Base}
use Rattle.st_types.specs.declared.base.Base.TheVariants as bases
use Rattle.st_leaves.specs.Places.{count}
use Rattle.st_leaves.specs.Selected.{element_of}
use Rattle.st_scopes.specs.Declarations.{names_in}
use Rattle.st_meaning.specs.Units.{functions_in, result_declared, root_of, unit_whole}
use Rattle.st_meaning.specs.Wholes.{Whole}
use Rattle.st_places.specs.declared.node.Node.{Node}
use Rattle.st_places.specs.declared.node.Node.TheVariants as nodes

-- the tables of a text
pub record TablesView : Type 0 where
  pub text : List Section

-- what has this type, through all units
abbrev pub inside : List Named → Base → Composition
inside units = composition_within units (suc (length units))

-- ---- what is declared in a unit

-- the result of a function, which has the function's name (2.5.1)
abbrev pub result_names : Declares → List Declared
result_names (names.function f) = result_declared f ∷ []
result_names unit = []

-- it stands before the variables
abbrev pub own_names : Declares → List Declared
own_names unit = result_names unit ++ names_in unit

-- of the unit of this number
abbrev pub own_names_at : List Named → ℕ → List Declared
own_names_at units i = option_map_or own_names (declares_at units i) []

-- the elements of the chart of the unit of this number
abbrev pub chart_at : List Named → ℕ → List ChartElement
chart_at units i = option_map_or chart_in (declares_at units i) []

-- ---- the names of a whole that are no constants, in order, and those that are

abbrev pub variables_among : List Declared → List Declared
variables_among [] = []
variables_among (v ∷ vs) = if is_constant v.kind then variables_among vs else v ∷ variables_among vs

abbrev pub constants_among : List Declared → List Declared
constants_among [] = []
constants_among (v ∷ vs) = if is_constant v.kind then v ∷ constants_among vs else constants_among vs

-- of the unit of this number
abbrev pub variables_at : List Named → ℕ → List Declared
variables_at units unit = variables_among (own_names_at units unit)

-- ---- parts

abbrev pub whole_part : List Named → Option Named → Composition
whole_part units None = unknown
whole_part units (Some u) = root_of units u

abbrev pub member_part : List Named → Option Declared → Composition
member_part units None = unknown
member_part units (Some v) = declared_composition units (inside units) v

-- each element of what is declared as an array
abbrev pub element_part : List Named → Option Declared → Composition
element_part units None = unknown
element_part units (Some v) = started (element_initial units v.specification) (inside units (shape_of units v.specification).base)

-- what has the array type of this unit
abbrev pub array_part : List Named → ℕ → Composition
array_part units i = elements_composition (inside units) (unit_element_initial units (unit_at units i)) (elements_in units (bases.Array i))

abbrev pub node_part : List Named → Node → Composition
node_part units (nodes.Whole unit) = whole_part units (unit_at units unit)
node_part units (nodes.Member unit number) = member_part units (slice_get (variables_at units unit) number)
node_part units (nodes.Element unit number) = element_part units (slice_get (variables_at units unit) number)
node_part units (nodes.ArrayElement unit) = element_of (array_part units unit)
node_part units (nodes.Pin e) = elementary (zero_of e)

-- what the part consists of
unfoldable pub part_in : TablesView → Node → Composition
part_in tables node = node_part (units_of tables.text) node

-- the node is one of a text of these units
abbrev pub IsNodeIn : List Named → Node → Type 0
IsNodeIn units (nodes.Member unit number) = number < length (variables_at units unit)
IsNodeIn units (nodes.Element unit number) = number < length (variables_at units unit)
IsNodeIn units (nodes.ArrayElement unit) = unit < length units
IsNodeIn units _ = Unit {0}

-- the tables have the node
unfoldable pub IsNodeOf : TablesView → Node → Type 0
IsNodeOf tables node = IsNodeIn (units_of tables.text) node

abbrev pub is_array : Composition → Bool
is_array (array ranges firsts c) = true
is_array _ = false

-- ---- units

abbrev pub is_block : Declares → Bool
is_block (names.block b) = true
is_block _ = false

abbrev pub is_function : Declares → Bool
is_function (names.function f) = true
is_function _ = false

-- a function block whose instances have at most 65536 leaves
abbrev pub is_small_block : List Named → Named → Bool
is_small_block units unit = is_block unit.declares && nat_le (count (root_of units unit)) 65536

abbrev pub optional_small_block : List Named → Option Named → Bool
optional_small_block units None = false
optional_small_block units (Some u) = is_small_block units u

-- whether the unit of this number is such a function block
unfoldable pub is_small_block_in : TablesView → ℕ → Bool
is_small_block_in tables unit = optional_small_block (units_of tables.text) (unit_at (units_of tables.text) unit)

-- a function that has at most 999999 variables, its result among them
abbrev pub is_small_function : List Named → Named → Bool
is_small_function units unit = is_function unit.declares && nat_le (count (root_of units unit)) 999999

abbrev pub optional_small_function : List Named → Option Named → Bool
optional_small_function units None = false
optional_small_function units (Some u) = is_small_function units u

-- whether the unit of this number is such a function
unfoldable pub is_small_function_in : TablesView → ℕ → Bool
is_small_function_in tables unit = optional_small_function (units_of tables.text) (unit_at (units_of tables.text) unit)

abbrev pub optional_whole : List Named → Option Named → Whole
optional_whole units None = record { variables = unknown; constants = λ name. None; invoked = λ name. None; functions = functions_in units }
optional_whole units (Some u) = unit_whole units u

-- what the names in the statements of the unit of this number stand for
unfoldable pub whole_in : TablesView → ℕ → Whole
whole_in tables unit = optional_whole (units_of tables.text) (unit_at (units_of tables.text) unit)
