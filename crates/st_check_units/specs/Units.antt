-- What the rules say of units (2.5), but for C6, and of their names.
use Rattle.std.specs.Prelude.{ℕ, ◌==◌, nat_lt, Bool, ◌||◌, List, [], ◌∷◌, ◌++◌, length, Option, Some, None}
use Rattle.std.specs.List.{flat_map}
use Rattle.std.specs.Option.{is_some}
use Rattle.st_tree.specs.declared.tree.declaration.VarBlock.{VarBlock}
use Rattle.st_tree.specs.declared.tree.position.Identifier.{Identifier}
use Rattle.st_tree.specs.declared.tree.unit.Body.{Body}
use Rattle.st_tree.specs.declared.tree.unit.Body.TheVariants as bodies
use Rattle.st_tree.specs.declared.tree.unit.ChartElement.{ChartElement}
use Rattle.st_tree.specs.declared.tree.unit.ChartElement.TheVariants as chart_elements
use Rattle.st_tree.specs.declared.tree.unit.Function.{Function}
use Rattle.st_tree.specs.declared.tree.unit.Pou.{Pou}
use Rattle.st_faults.specs.Faults.{fault, when}
use Rattle.st_faults.specs.declared.fault.Fault.{Fault}
use Rattle.st_faults.specs.declared.fault.Rule.TheVariants as rules
use Rattle.st_types.specs.Names.{Declares, Named, chart_of}
use Rattle.st_types.specs.Names as names
use Rattle.st_types.specs.Scopes.{Scope, scope_of}
use Rattle.st_types.specs.Standard.{standard_of}
use Rattle.st_check_statements.specs.Statements.{body_faults}
use Rattle.st_check_units.specs.Charts.{chart_faults}
use Rattle.st_check_units.specs.Declarations.{block_faults, declared_names, type_declaration_faults}
use Rattle.st_check_units.specs.Repeats.{is_there, repeated}

-- ---- what a unit declares and does

abbrev pub listed : Option Identifier → List Identifier
listed None = []
listed (Some name) = name ∷ []

abbrev pub element_names : ChartElement → List Identifier
element_names (chart_elements.Step s) = s.name ∷ []
element_names (chart_elements.Transition t) = listed t.name
element_names (chart_elements.Action a) = a.name ∷ []

-- the names in some blocks of variables, in order
abbrev pub variable_names : List VarBlock → List Identifier
variable_names blocks = flat_map (λ b. declared_names b.declarations) blocks

abbrev pub chart_names : List ChartElement → List Identifier
chart_names elements = flat_map element_names elements

abbrev pub body_of_faults : Scope → Identifier → Body → List Fault
body_of_faults scope unit (bodies.Statements statements) = body_faults scope statements
body_of_faults scope unit (bodies.Chart elements) = chart_faults scope unit elements

-- A function's name is that of its result, and no variable's.
abbrev pub function_faults : List Named → Scope → Function → List Fault
function_faults units scope f =
    repeated (f.name.spelling ∷ []) (variable_names f.variables)
    ++ flat_map (block_faults units (names.function f)) f.variables
    ++ body_faults scope f.statements

-- No two variables, steps, transitions and actions have one name.
abbrev pub pou_faults : List Named → Scope → Declares → Pou → List Fault
pou_faults units scope unit p =
    repeated [] (variable_names p.variables ++ chart_names (chart_of p.body))
    ++ flat_map (block_faults units unit) p.variables
    ++ body_of_faults scope p.name p.body

-- of a unit in whose statements names stand for this
abbrev pub unit_faults : List Named → Scope → Identifier → Declares → List Fault
unit_faults units scope name (names.type d) = type_declaration_faults units name d
unit_faults units scope name (names.function f) = function_faults units scope f
unit_faults units scope name (names.block b) = pou_faults units scope (names.block b) b
unit_faults units scope name (names.program p) = pou_faults units scope (names.program p) p

-- ---- the names of units: C2 and C9

-- a unit named as one before it, or as what is standard
abbrev pub is_taken : List (List ℕ) → List ℕ → Bool
is_taken others name = is_there others name || is_some (standard_of name)

-- the 1,001st unit, and a name of more than 128 bytes
abbrev pub is_past_limit : ℕ → List ℕ → Bool
is_past_limit number name = (number == 1000) || nat_lt 128 (length name)

-- of the unit of this number, where those before it have these names
abbrev pub name_faults : List (List ℕ) → Identifier → List Fault
name_faults others name =
    when (is_taken others name.spelling) (fault name.position rules.NameTwice)
    ++ when (is_past_limit (length others) name.spelling) (fault name.position rules.LimitPassed)

-- of the units, where those before them have these names
abbrev pub names_faults : List (List ℕ) → List Named → List Fault
names_faults others [] = []
names_faults others (u ∷ us) = name_faults others u.name ++ names_faults (others ++ u.name.spelling ∷ []) us

-- of what the units declare and do
abbrev pub units_faults : List Named → List Fault
units_faults units = flat_map (λ u. unit_faults units (scope_of units u.declares) u.name u.declares) units

-- what the rules say of the units, one by one
abbrev pub node_faults : List Named → List Fault
node_faults units = names_faults [] units ++ units_faults units
