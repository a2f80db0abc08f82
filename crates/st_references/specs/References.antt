-- Which units a unit contains or calls (2.5), by their numbers.
use Rattle.std.specs.Prelude.{ℕ, Bool, true, false, ◌&&◌, not, List, [], ◌∷◌, ◌++◌, map, Option, Some, None, if◌then◌else◌}
use Rattle.std.specs.List.{flat_map}
use Rattle.std.specs.Option.{is_some}
use Rattle.st_tree.specs.declared.tree.declaration.DeclaredType.TheVariants as declared_types
use Rattle.st_tree.specs.declared.tree.declaration.Specification.{Specification}
use Rattle.st_tree.specs.declared.tree.declaration.Specification.TheVariants as specifications
use Rattle.st_tree.specs.declared.tree.declaration.TypeName.{TypeName}
use Rattle.st_tree.specs.declared.tree.declaration.TypeName.TheVariants as type_names
use Rattle.st_types.specs.Names.{Declared, Declares, Named, members_of, number_of, unit_named, variables_in}
use Rattle.st_types.specs.Names as names
use Rattle.st_types.specs.Scopes.{callee_named}
use Rattle.st_types.specs.Standard.{standard_of}
use Rattle.st_types.specs.declared.symbol.Callee.{Callee}
use Rattle.st_types.specs.declared.symbol.Callee.TheVariants as callees
use Rattle.st_references.specs.Calls.{unit_calls}

abbrev pub listed : Option ℕ → List ℕ
listed None = []
listed (Some i) = i ∷ []

-- ---- the names of types in a unit's declarations, misplaced ones too

abbrev pub type_names_in : TypeName → List (List ℕ)
type_names_in (type_names.Elementary position e) = []
type_names_in (type_names.Declared t) = t.spelling ∷ []

abbrev pub specified_names : Specification → List (List ℕ)
specified_names (specifications.Simple t) = type_names_in t
specified_names (specifications.Array position ranges t) = type_names_in t

abbrev pub declared_names : Declared → List (List ℕ)
declared_names v = specified_names v.specification

abbrev pub unit_types : Declares → List (List ℕ)
unit_types (names.type (declared_types.Derived specification initial)) = specified_names specification
unit_types (names.type (declared_types.Structure position members)) = flat_map declared_names (members_of members)
unit_types unit = flat_map declared_names (variables_in unit)

-- ---- the units of these names

abbrev pub is_type : Declares → Bool
is_type (names.type d) = true
is_type (names.block b) = true
is_type _ = false

abbrev pub names_type : Option Named → Bool
names_type None = false
names_type (Some unit) = is_type unit.declares

-- a name in a declaration, where it is that of a type or function block of the text
abbrev pub contained : List Named → List ℕ → List ℕ
contained units name = if not (is_some (standard_of name)) && names_type (unit_named units name) then listed (number_of units name) else []

abbrev pub is_own : Callee → Bool
is_own (callees.Own f) = true
is_own _ = false

-- a name that is called in a unit, where it is that of a function of the text
abbrev pub called : List Named → Declares → List ℕ → List ℕ
called units unit name = if is_own (callee_named units unit name) then listed (number_of units name) else []

-- what a unit contains, and what it calls
abbrev pub references : List Named → Declares → List ℕ
references units unit = flat_map (contained units) (unit_types unit) ++ flat_map (called units unit) (unit_calls unit)

-- row i lists what unit i contains and calls
abbrev pub graph_of : List Named → List (List ℕ)
graph_of units = map (λ u. references units u.declares) units
