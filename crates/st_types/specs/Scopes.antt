-- What the names of a unit stand for at its statements (2.4, 2.5), and what can be named of a structure or an instance.
use Rattle.std.specs.Prelude.{ℕ, Bool, true, false, ◌&&◌, ◌||◌, not, List, [], ◌∷◌, Option, Some, None, if◌then◌else◌}
use Rattle.std.specs.List.{flat_map}
use Rattle.std.specs.Option.{option_map}
use Rattle.st_values.specs.Words.{is_word}
use Rattle.st_values.specs.declared.elem.Elem.{Elem}
use Rattle.st_tree.specs.declared.tree.declaration.DeclaredType.TheVariants as declared_types
use Rattle.st_tree.specs.declared.tree.declaration.VarKind.{VarKind}
use Rattle.st_tree.specs.declared.tree.declaration.VarKind.TheVariants as var_kinds
use Rattle.st_tree.specs.declared.tree.declaration.Subrange.{Subrange}
use Rattle.st_tree.specs.declared.tree.unit.Function.{Function}
use Rattle.st_tree.specs.declared.tree.unit.Unit.{Unit as Section}
use Rattle.st_tree.specs.Kinds.{is_input}
use Rattle.st_types.specs.Names.{Declared, Declares, Named, declared_named, is_action, is_step, members_of, unit_at, unit_named, units_of, variables_in, variables_of}
use Rattle.st_types.specs.Names as names
use Rattle.st_types.specs.Signatures.{Input, Signature, signature}
use Rattle.st_types.specs.Standard.{Pin, pin_named, pins_of, standard_of}
use Rattle.st_types.specs.Types.{Elements, Shape, elem_of, elements_in, is_instance, is_unknown, is_value, plain, shape_of, unknown}
use Rattle.st_types.specs.declared.base.Base.{Base}
use Rattle.st_types.specs.declared.base.Base.TheVariants as bases
use Rattle.st_types.specs.declared.base.Purpose.{Purpose}
use Rattle.st_types.specs.declared.base.Purpose.TheVariants as purposes
use Rattle.st_types.specs.declared.standard.Standard.{Standard}
use Rattle.st_types.specs.declared.standard.Standard.TheVariants as standards
use Rattle.st_types.specs.declared.symbol.Callee.{Callee}
use Rattle.st_types.specs.declared.symbol.Callee.TheVariants as callees
use Rattle.st_types.specs.declared.symbol.Due.{Due}
use Rattle.st_types.specs.declared.symbol.Due.TheVariants as dues
use Rattle.st_types.specs.declared.symbol.Member.{Member}
use Rattle.st_types.specs.declared.symbol.Symbol.{Symbol}

-- ---- variables

abbrev pub symbol : Purpose → Shape → Symbol
symbol purpose shape = record { purpose = purpose; shape = shape }

abbrev pub purpose_of : VarKind → Purpose
purpose_of var_kinds.Internal = purposes.Internal
purpose_of var_kinds.Constant = purposes.Constant
purpose_of var_kinds.Input = purposes.Input
purpose_of var_kinds.Output = purposes.Output

-- Instances stand under VAR of a function block or program.
abbrev pub may_hold_instances : Declares → VarKind → Bool
may_hold_instances (names.block b) var_kinds.Internal = true
may_hold_instances (names.program p) var_kinds.Internal = true
may_hold_instances _ _ = false

-- The variables of functions, and constants, are of elementary types.
abbrev pub must_be_value : Declares → VarKind → Bool
must_be_value (names.function f) _ = true
must_be_value _ var_kinds.Constant = true
must_be_value _ _ = false

-- what a variable is made of; unknown where its type may not stand there
abbrev pub placed : Declares → VarKind → Shape → Shape
placed unit kind shape =
    if (is_instance shape.base && not (may_hold_instances unit kind)) || (must_be_value unit kind && not (is_value shape)) then unknown else shape

abbrev pub variable_shape : List Named → Declares → Declared → Shape
variable_shape units unit v = placed unit v.kind (shape_of units v.specification)

abbrev pub symbol_of : List Named → Declares → Declared → Symbol
symbol_of units unit v = symbol (purpose_of v.kind) (variable_shape units unit v)

abbrev pub variable_in : List Named → Declares → List ℕ → Option Symbol
variable_in units unit name = option_map (symbol_of units unit) (declared_named (variables_in unit) name)

-- what a name is, where it is that of a variable. A function's own name is its result.
abbrev pub variable_of : List Named → Declares → List ℕ → Option Symbol
variable_of units (names.function f) name =
    if is_word f.name.spelling name then Some (symbol purposes.Result (plain (bases.Elementary f.result))) else variable_in units (names.function f) name
variable_of units unit name = variable_in units unit name

unfoldable pub variable_named : List Named → Declares → List ℕ → Option Symbol
variable_named units unit name = variable_of units unit name

-- ---- members of a structure, and the inputs and outputs of an instance (2.5.2.2)

abbrev pub member : Option Symbol → Bool → Member
member found of_instance = record { symbol = found; of_instance = of_instance }

-- a structure holds no instances
abbrev pub component_shape : Shape → Shape
component_shape s = if is_instance s.base then unknown else s

abbrev pub component_of : List Named → Declared → Symbol
component_of units v = symbol purposes.Internal (component_shape (shape_of units v.specification))

abbrev pub pin_symbol : Pin → Symbol
pin_symbol p = symbol p.purpose (plain (bases.Elementary p.elem))

abbrev pub pin_member : Option Pin → Member
pin_member None = member None false
pin_member (Some p) = member (Some (pin_symbol p)) true

-- From outside an instance its inputs and outputs can be named, and nothing else.
abbrev pub seen : VarKind → Symbol → Option Symbol
seen var_kinds.Input s = Some s
seen var_kinds.Output s = Some s
seen _ s = None

abbrev pub parameter_member : List Named → Declares → Option Declared → Member
parameter_member units unit None = member None false
parameter_member units unit (Some v) = member (seen v.kind (symbol_of units unit v)) true

abbrev pub unit_member : List Named → Declares → List ℕ → Member
unit_member units (names.type (declared_types.Structure position declarations)) name =
    member (option_map (component_of units) (declared_named (members_of declarations) name)) false
unit_member units (names.block b) name = parameter_member units (names.block b) (declared_named (variables_of b.variables) name)
unit_member units _ name = member None false

abbrev pub optional_member : List Named → Option Named → List ℕ → Member
optional_member units None name = member None false
optional_member units (Some unit) name = unit_member units unit.declares name

unfoldable pub member_of : List Named → Base → List ℕ → Member
member_of units (bases.Structure i) name = optional_member units (unit_at units i) name
member_of units (bases.Block i) name = optional_member units (unit_at units i) name
member_of units (bases.Standard b) name = pin_member (pin_named (pins_of b) name)
member_of units _ name = member None false

-- ---- what can be called (2.5.1.4, 3.3.2.2)

abbrev pub elem_due : Option Elem → Due
elem_due None = dues.Any
elem_due (Some e) = dues.Type e

-- what is asked of what goes into a variable
abbrev pub shape_due : Shape → Due
shape_due s = if is_unknown s.base then dues.Any else if is_value s then elem_due (elem_of s) else dues.NoValue

abbrev pub input_of : List Named → Declares → Declared → List Input
input_of units unit v = if is_input v.kind then record { name = v.name.spelling; due = shape_due (variable_shape units unit v) } ∷ [] else []

abbrev pub inputs_of : List Named → Function → List Input
inputs_of units f = flat_map (input_of units (names.function f)) (variables_of f.variables)

abbrev pub signature_of : List Named → Function → Signature
signature_of units f = signature f.result (inputs_of units f)

abbrev pub unit_callee : List Named → Declares → Callee
unit_callee units (names.function f) = callees.Own (signature_of units f)
unit_callee units (names.block b) = callees.Block
unit_callee units _ = callees.Missing

abbrev pub optional_callee : List Named → Option Named → Callee
optional_callee units None = callees.Missing
optional_callee units (Some unit) = unit_callee units unit.declares

-- a name that is standard, or else that of a unit
abbrev pub global_callee : List Named → List ℕ → Option Standard → Callee
global_callee units name (Some (standards.Function f)) = callees.Standard f
global_callee units name (Some (standards.Conversion x y)) = callees.Conversion x y
global_callee units name (Some (standards.Block b)) = callees.Block
global_callee units name None = optional_callee units (unit_named units name)

abbrev pub is_missing : Callee → Bool
is_missing callees.Missing = true
is_missing _ = false

-- an instance of the unit goes first; a variable whose type can't be known last
abbrev pub base_callee : Callee → Base → Callee
base_callee other (bases.Block i) = callees.Instance (bases.Block i)
base_callee other (bases.Standard b) = callees.Instance (bases.Standard b)
base_callee other bases.Unknown = if is_missing other then callees.Faulty else other
base_callee other _ = other

abbrev pub shape_callee : Callee → Option (List Subrange) → Base → Callee
shape_callee other None base = base_callee other base
shape_callee other (Some ranges) base = other

abbrev pub symbol_callee : Callee → Option Symbol → Callee
symbol_callee other None = other
symbol_callee other (Some s) = shape_callee other s.shape.subscripts s.shape.base

unfoldable pub callee_named : List Named → Declares → List ℕ → Callee
callee_named units unit name = symbol_callee (global_callee units name (standard_of name)) (variable_named units unit name)

-- ---- the scope of a unit

-- what the names in a unit's statements stand for
pub record Scope : Type 0 where
  pub variable : List ℕ → Option Symbol
  pub step : List ℕ → Bool
  pub action : List ℕ → Bool
  pub elements : Base → Option Elements
  pub member : Base → List ℕ → Member
  pub callee : List ℕ → Callee

unfoldable pub scope_of : List Named → Declares → Scope
scope_of units unit = record {
  variable = variable_named units unit;
  step = is_step unit;
  action = is_action unit;
  elements = elements_in units;
  member = member_of units;
  callee = callee_named units unit;
}

-- what stands past the end of a list of units: nothing
abbrev pub no_scope : Scope
no_scope = record {
  variable = λ name. None;
  step = λ name. false;
  action = λ name. false;
  elements = λ base. None;
  member = λ base name. member None false;
  callee = λ name. callees.Missing;
}

abbrev pub optional_scope : List Named → Option Named → Scope
optional_scope units None = no_scope
optional_scope units (Some unit) = scope_of units unit.declares

-- the scope of the unit of this number in a text
unfoldable pub scope_at : List Section × ℕ → Scope
scope_at place = optional_scope (units_of place.0) (unit_at (units_of place.0) place.1)
