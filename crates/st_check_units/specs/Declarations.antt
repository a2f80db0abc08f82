-- What the rules say of declarations (2.3.3, 2.4.2, 2.4.3).
use Rattle.std.specs.Prelude.{ℕ, ◌^◌, min, Bool, true, false, ◌&&◌, ◌||◌, not, List, [], ◌∷◌, ◌++◌, Option, Some, None, if◌then◌else◌}
use Rattle.std.specs.List.{flat_map, sum_by}
use Rattle.std.specs.Option.{option_map}
use Rattle.st_tree.specs.declared.tree.constant.Constant.{Constant}
use Rattle.st_tree.specs.declared.tree.declaration.ArrayElement.{ArrayElement}
use Rattle.st_tree.specs.declared.tree.declaration.ArrayElement.TheVariants as array_elements
use Rattle.st_tree.specs.declared.tree.declaration.Declaration.{Declaration}
use Rattle.st_tree.specs.declared.tree.declaration.DeclaredType.{DeclaredType}
use Rattle.st_tree.specs.declared.tree.declaration.DeclaredType.TheVariants as declared_types
use Rattle.st_tree.specs.declared.tree.declaration.Initial.{Initial}
use Rattle.st_tree.specs.declared.tree.declaration.Initial.TheVariants as initials
use Rattle.st_tree.specs.declared.tree.declaration.Specification.{Specification}
use Rattle.st_tree.specs.declared.tree.declaration.Specification.TheVariants as specifications
use Rattle.st_tree.specs.declared.tree.declaration.Subrange.{Subrange}
use Rattle.st_tree.specs.declared.tree.declaration.TypeName.{TypeName}
use Rattle.st_tree.specs.declared.tree.declaration.TypeName.TheVariants as type_names
use Rattle.st_tree.specs.declared.tree.declaration.VarBlock.{VarBlock}
use Rattle.st_tree.specs.declared.tree.declaration.VarKind.{VarKind}
use Rattle.st_tree.specs.declared.tree.declaration.VarKind.TheVariants as var_kinds
use Rattle.st_tree.specs.declared.tree.position.Identifier.{Identifier}
use Rattle.st_tree.specs.declared.tree.position.Position.{Position}
use Rattle.st_tree.specs.Kinds.{is_output}
use Rattle.st_faults.specs.Faults.{fault, when}
use Rattle.st_faults.specs.declared.fault.Fault.{Fault}
use Rattle.st_faults.specs.declared.fault.Rule.TheVariants as rules
use Rattle.st_types.specs.Names.{Declares, Named, unit_named}
use Rattle.st_types.specs.Names as names
use Rattle.st_types.specs.Scopes.{may_hold_instances, must_be_value}
use Rattle.st_types.specs.Standard.{standard_of}
use Rattle.st_types.specs.Types.{Elements, Shape, elements_in, is_instance, is_unknown, is_value, shape_of}
use Rattle.st_types.specs.declared.base.Base.{Base}
use Rattle.st_types.specs.declared.base.Base.TheVariants as bases
use Rattle.st_types.specs.declared.standard.Standard.{Standard}
use Rattle.st_types.specs.declared.standard.Standard.TheVariants as standards
use Rattle.st_check_expressions.specs.Known.{is_misstated, literal_faults, literal_position, open_literal_faults}
use Rattle.st_check_units.specs.Repeats.{repeated}
use Rattle.st_check_units.specs.Subscripts.{array_size, is_more, subrange_faults}
use Rattle.st_check_units.specs.declared.permitted.Permitted.{Permitted}
use Rattle.st_check_units.specs.declared.permitted.Permitted.TheVariants as permits
use Rattle.st_check_units.specs.declared.permitted.TypeUse.{TypeUse}
use Rattle.st_check_units.specs.declared.permitted.TypeUse.TheVariants as type_uses

-- ---- types as declarations name them

-- what a unit is, used as a type
abbrev pub unit_as_type : Declares → TypeUse
unit_as_type (names.type d) = type_uses.Type
unit_as_type (names.block b) = type_uses.Block
unit_as_type _ = type_uses.Other

abbrev pub optional_as_type : Option Named → TypeUse
optional_as_type None = type_uses.Missing
optional_as_type (Some unit) = unit_as_type unit.declares

-- what something standard is
abbrev pub standard_as_type : Standard → TypeUse
standard_as_type (standards.Block b) = type_uses.Block
standard_as_type _ = type_uses.Other

abbrev pub named_as_type : Option Named → Option Standard → TypeUse
named_as_type unit None = optional_as_type unit
named_as_type unit (Some standard) = standard_as_type standard

-- what a name is, used as a type: what is standard, or else the unit
abbrev pub as_type : List Named → TypeName → TypeUse
as_type units (type_names.Elementary position e) = type_uses.Type
as_type units (type_names.Declared t) = named_as_type (unit_named units t.spelling) (standard_of t.spelling)

abbrev pub is_missing : TypeUse → Bool
is_missing type_uses.Missing = true
is_missing _ = false

abbrev pub type_position : TypeName → Position
type_position (type_names.Elementary position e) = position
type_position (type_names.Declared t) = t.position

abbrev pub type_faults : List Named → TypeName → List Fault
type_faults units t = when (is_missing (as_type units t)) (fault (type_position t) rules.UnknownName)

abbrev pub specification_faults : List Named → Specification → List Fault
specification_faults units (specifications.Simple t) = type_faults units t
specification_faults units (specifications.Array position ranges t) = flat_map subrange_faults ranges ++ type_faults units t

-- ---- initial values (2.4.2)

-- a literal for an array
abbrev pub array_literal_faults : Constant → List Fault
array_literal_faults c = fault (literal_position c) (if is_misstated c then rules.OutOfRange else rules.TypeMismatch) ∷ []

-- a literal for what is made of this
abbrev pub constant_faults : Base → Constant → List Fault
constant_faults (bases.Elementary e) c = literal_faults c (literal_position c) e
constant_faults (bases.Array i) c = array_literal_faults c
constant_faults _ c = open_literal_faults c

abbrev pub optional_constant_faults : Base → Option Constant → List Fault
optional_constant_faults base None = []
optional_constant_faults base (Some c) = constant_faults base c

-- an item of a list, for elements that are made of this
abbrev pub item_faults : Base → ArrayElement → List Fault
item_faults base (array_elements.Single c) = constant_faults base c
item_faults base (array_elements.Repeated position n c) = optional_constant_faults base c

-- how many elements an item gives. Each number above 2^64 - 1 counts as 2^64.
abbrev pub item_size : ArrayElement → ℕ
item_size (array_elements.Single c) = 1
item_size (array_elements.Repeated position n c) = min n (2 ^ 64)

abbrev pub elements_by : List Named → Option (List Subrange) → Base → Option Elements
elements_by units (Some ranges) base = Some (record { subscripts = ranges; element = base })
elements_by units None base = elements_in units base

-- the subscripts and elements of what is an array
abbrev pub elements_of : List Named → Shape → Option Elements
elements_of units s = elements_by units s.subscripts s.base

-- what each element is
abbrev pub element_of : List Named → Shape → Option Base
element_of units s = option_map (λ e. e.element) (elements_of units s)

abbrev pub literal_faults_by : Option Base → Base → Constant → List Fault
literal_faults_by None base c = constant_faults base c
literal_faults_by (Some element) base c = array_literal_faults c

-- A list is for an array. What is made of something that can't be known takes each.
abbrev pub list_faults_by : Option Base → Base → Position → List ArrayElement → List Fault
list_faults_by None base position items = if is_unknown base then flat_map (item_faults base) items else fault position rules.TypeMismatch ∷ []
list_faults_by (Some element) base position items = flat_map (item_faults element) items

abbrev pub value_faults : List Named → Shape → Initial → List Fault
value_faults units s (initials.Constant c) = literal_faults_by (element_of units s) s.base c
value_faults units s (initials.Array position items) = list_faults_by (element_of units s) s.base position items

abbrev pub is_structure : Base → Bool
is_structure (bases.Structure i) = true
is_structure _ = false

abbrev pub is_plain : Option (List Subrange) → Bool
is_plain None = true
is_plain (Some ranges) = false

-- a structure or an instance, which has no initial value
abbrev pub is_composed : Shape → Bool
is_composed s = is_plain s.subscripts && (is_structure s.base || is_instance s.base)

abbrev pub initial_faults : List Named → Shape → Option Initial → List Fault
initial_faults units s None = []
initial_faults units s (Some initial) = if is_composed s then [] else value_faults units s initial

-- The list is for structures, or has more values than the array has elements.
abbrev pub is_excessive_by : Option Elements → List ArrayElement → Bool
is_excessive_by None items = false
is_excessive_by (Some elements) items = is_structure elements.element || is_more (sum_by item_size items) (array_size elements.subscripts)

abbrev pub is_excessive : List Named → Shape → Initial → Bool
is_excessive units s (initials.Constant c) = false
is_excessive units s (initials.Array position items) = is_excessive_by (elements_of units s) items

-- No name takes the initial value.
abbrev pub is_misvalued : List Named → Shape → Option Initial → Bool
is_misvalued units s None = false
is_misvalued units s (Some initial) = is_composed s || is_excessive units s initial

-- ---- declarations

abbrev pub is_function : Declares → Bool
is_function (names.function f) = true
is_function _ = false

-- Functions have no outputs, and their variables, as constants, are of elementary types.
abbrev pub permitted : Declares → VarKind → Permitted
permitted unit kind =
    if is_function unit && is_output kind then permits.Nothing
    else if must_be_value unit kind then permits.Values
    else if may_hold_instances unit kind then permits.Instances
    else permits.Types

-- such a type may stand there
abbrev pub type_fits : Bool → TypeUse → Bool
type_fits instances type_uses.Missing = true
type_fits instances type_uses.Type = true
type_fits instances type_uses.Block = instances
type_fits instances type_uses.Other = false

-- An array has no instances as elements.
abbrev pub specification_fits : List Named → Bool → Specification → Bool
specification_fits units instances (specifications.Simple t) = type_fits instances (as_type units t)
specification_fits units instances (specifications.Array position ranges t) = type_fits false (as_type units t)

-- what is specified may be declared
abbrev pub is_permitted : Permitted → List Named → Specification → Bool
is_permitted permits.Nothing units s = false
is_permitted permits.Values units s = specification_fits units false s && (is_unknown (shape_of units s).base || is_value (shape_of units s))
is_permitted permits.Types units s = specification_fits units false s
is_permitted permits.Instances units s = specification_fits units true s

-- No name may be declared so.
abbrev pub is_misdeclared : List Named → Permitted → Specification → Option Initial → Bool
is_misdeclared units p s initial = not (is_permitted p units s) || is_misvalued units (shape_of units s) initial

-- of what is specified, and of its initial value
abbrev pub specified_faults : List Named → Specification → Option Initial → List Fault
specified_faults units s initial = specification_faults units s ++ initial_faults units (shape_of units s) initial

-- at each of these names, where they may not be declared so
abbrev pub misdeclared_faults : Bool → List Identifier → List Fault
misdeclared_faults are_wrong ns = flat_map (λ n. when are_wrong (fault n.position rules.TypeMismatch)) ns

-- of a declaration, where this may be declared
abbrev pub declaration_faults : List Named → Permitted → Declaration → List Fault
declaration_faults units p d = specified_faults units d.specification d.initial ++ misdeclared_faults (is_misdeclared units p d.specification d.initial) d.names

-- of a block of variables of the unit
abbrev pub block_faults : List Named → Declares → VarBlock → List Fault
block_faults units unit b = flat_map (declaration_faults units (permitted unit b.kind)) b.declarations

-- ---- declared types

-- the names in some declarations, in order
abbrev pub declared_names : List Declaration → List Identifier
declared_names ds = flat_map (λ d. d.names) ds

-- of the type that is declared under this name
abbrev pub type_declaration_faults : List Named → Identifier → DeclaredType → List Fault
type_declaration_faults units name (declared_types.Derived s initial) =
    specified_faults units s initial ++ when (is_misdeclared units permits.Types s initial) (fault name.position rules.TypeMismatch)
type_declaration_faults units name (declared_types.Structure position members) =
    repeated [] (declared_names members) ++ flat_map (declaration_faults units permits.Types) members
