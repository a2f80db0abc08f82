-- The units of a text, and what they declare, under their names. Names are the same where they differ in case only (2.1.2).
use Rattle.std.specs.Prelude.{ℕ, zero, suc, Bool, List, [], ◌∷◌, map, Option, Some, None, if◌then◌else◌}
use Rattle.std.specs.List.{flat_map, list_any, position}
use Rattle.st_tree.specs.declared.tree.declaration.Declaration.{Declaration}
use Rattle.st_tree.specs.declared.tree.declaration.DeclaredType.{DeclaredType}
use Rattle.st_tree.specs.declared.tree.declaration.Initial.{Initial}
use Rattle.st_tree.specs.declared.tree.declaration.Specification.{Specification}
use Rattle.st_tree.specs.declared.tree.declaration.VarBlock.{VarBlock}
use Rattle.st_tree.specs.declared.tree.declaration.VarKind.{VarKind}
use Rattle.st_tree.specs.declared.tree.declaration.VarKind.TheVariants as var_kinds
use Rattle.st_tree.specs.declared.tree.position.Identifier.{Identifier}
use Rattle.st_tree.specs.declared.tree.unit.Action.{Action}
use Rattle.st_tree.specs.declared.tree.unit.Body.{Body}
use Rattle.st_tree.specs.declared.tree.unit.Body.TheVariants as bodies
use Rattle.st_tree.specs.declared.tree.unit.ChartElement.{ChartElement}
use Rattle.st_tree.specs.declared.tree.unit.ChartElement.TheVariants as chart_elements
use Rattle.st_tree.specs.declared.tree.unit.Function.{Function}
use Rattle.st_tree.specs.declared.tree.unit.Pou.{Pou}
use Rattle.st_tree.specs.declared.tree.unit.Step.{Step}
use Rattle.st_tree.specs.declared.tree.unit.Unit.{Unit as Section}
use Rattle.st_tree.specs.declared.tree.unit.Unit.TheVariants as unit_kinds
use Rattle.st_values.specs.Words.{is_word}

-- what the name of a unit declares
pub data Declares : Type 0 where
  type : DeclaredType → Declares
  function : Function → Declares
  block : Pou → Declares
  program : Pou → Declares

-- a unit: each name of TYPE .. END_TYPE is one
pub record Named : Type 0 where
  pub name : Identifier
  pub declares : Declares

abbrev pub named : Identifier → Declares → Named
named name declares = record { name = name; declares = declares }

abbrev pub units_in : Section → List Named
units_in (unit_kinds.Types position declarations) = map (λ d. named d.name (type d.declared)) declarations
units_in (unit_kinds.Function f) = named f.name (function f) ∷ []
units_in (unit_kinds.FunctionBlock b) = named b.name (block b) ∷ []
units_in (unit_kinds.Program p) = named p.name (program p) ∷ []

-- the units of a text, in order
abbrev pub units_of : List Section → List Named
units_of text = flat_map units_in text

-- the unit of this number
abbrev pub unit_at : List Named → ℕ → Option Named
unit_at [] i = None
unit_at (u ∷ us) zero = Some u
unit_at (u ∷ us) (suc i) = unit_at us i

-- the number of the first unit with this name
abbrev pub number_of : List Named → List ℕ → Option ℕ
number_of units name = position (λ u. is_word u.name.spelling name) units

abbrev pub unit_by : List Named → Option ℕ → Option Named
unit_by units None = None
unit_by units (Some i) = unit_at units i

-- the first unit with this name
abbrev pub unit_named : List Named → List ℕ → Option Named
unit_named units name = unit_by units (number_of units name)

-- ---- what a unit declares

-- one name of a declaration
pub record Declared : Type 0 where
  pub name : Identifier
  pub kind : VarKind
  pub specification : Specification
  pub initial : Option Initial

abbrev pub declared_in : VarKind → Declaration → List Declared
declared_in kind d = map (λ n. record { name = n; kind = kind; specification = d.specification; initial = d.initial }) d.names

-- the variables of these blocks of declarations, in order
abbrev pub variables_of : List VarBlock → List Declared
variables_of blocks = flat_map (λ b. flat_map (declared_in b.kind) b.declarations) blocks

-- the members of a structure, in order
abbrev pub members_of : List Declaration → List Declared
members_of declarations = flat_map (declared_in var_kinds.Internal) declarations

-- the first of these with this name
abbrev pub declared_named : List Declared → List ℕ → Option Declared
declared_named [] name = None
declared_named (v ∷ vs) name = if is_word v.name.spelling name then Some v else declared_named vs name

abbrev pub variables_in : Declares → List Declared
variables_in (type t) = []
variables_in (function f) = variables_of f.variables
variables_in (block b) = variables_of b.variables
variables_in (program p) = variables_of p.variables

-- ---- charts (2.6)

abbrev pub chart_of : Body → List ChartElement
chart_of (bodies.Statements statements) = []
chart_of (bodies.Chart elements) = elements

-- the elements of a unit's chart. A unit without a chart has none.
abbrev pub chart_in : Declares → List ChartElement
chart_in (block b) = chart_of b.body
chart_in (program p) = chart_of p.body
chart_in _ = []

abbrev pub steps_in : ChartElement → List Step
steps_in (chart_elements.Step s) = s ∷ []
steps_in _ = []

abbrev pub actions_in : ChartElement → List Action
actions_in (chart_elements.Action a) = a ∷ []
actions_in _ = []

abbrev pub steps_of : Declares → List Step
steps_of unit = flat_map steps_in (chart_in unit)

abbrev pub actions_of : Declares → List Action
actions_of unit = flat_map actions_in (chart_in unit)

-- one of the identifiers has this name
abbrev pub is_among : List ℕ → List Identifier → Bool
is_among name identifiers = list_any (λ i. is_word i.spelling name) identifiers

abbrev pub is_step : Declares → List ℕ → Bool
is_step unit name = is_among name (map (λ s. s.name) (steps_of unit))

abbrev pub is_action : Declares → List ℕ → Bool
is_action unit name = is_among name (map (λ a. a.name) (actions_of unit))
