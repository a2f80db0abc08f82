-- What is said where a type is expected and another one found.
use Rattle.std.specs.Prelude.{◌||◌, ◌&&◌, not, Bool, if◌then◌else◌, is_some, nat_lt}
use Rattle.st_values.specs.declared.elem.Elem.{Elem}
use Rattle.st_values.specs.declared.elem.Elem.TheVariants as elems
use Rattle.st_values.specs.Types.{is_same, is_signed, limit_of}
use Rattle.st_types.specs.Types.{Shape}
use Rattle.st_types.specs.declared.base.Base.{Base}
use Rattle.st_types.specs.declared.base.Base.TheVariants as bases
use Rattle.st_types.specs.declared.symbol.Due.{Due}
use Rattle.st_types.specs.declared.symbol.Due.TheVariants as dues
use Rattle.st_type_messages.specs.declared.cause.Cause.{Cause}
use Rattle.st_type_messages.specs.declared.cause.Cause.TheVariants as causes

-- the values of the first type are not all in the range of the second
abbrev pub wraps : Elem → Elem → Bool
wraps found due = nat_lt (limit_of due) (limit_of found) || (is_signed found && not (is_signed due))

-- a type is found, and another one is due
abbrev pub conversion_cause : Elem → Elem → Cause
conversion_cause found due =
    if is_same due elems.Bool then causes.ExpectedBool
    else if is_same due elems.Time then causes.ExpectedTime
    else if is_same found elems.Time then causes.FoundTime
    else if wraps found due then causes.Wrapped
    else causes.Converted

-- a type is found, and this is due
abbrev pub due_cause : Elem → Due → Cause
due_cause found (dues.Type due) = conversion_cause found due
due_cause found dues.Integer = causes.ExpectedInteger
due_cause found dues.Any = causes.Expected
due_cause found dues.NoValue = causes.Expected

-- a variable, or an array of these, begins as it can't
abbrev pub initial_cause : Base → Cause
initial_cause (bases.Block unit) = causes.InstanceDeclared
initial_cause (bases.Standard block) = causes.InstanceDeclared
initial_cause (bases.Structure unit) = causes.StructureInitial
initial_cause _ = causes.ListTooLong

-- this stands whole where a value is due
abbrev pub whole_base_cause : Base → Cause
whole_base_cause (bases.Array unit) = causes.WholeArray
whole_base_cause (bases.Structure unit) = causes.WholeStructure
whole_base_cause (bases.Block unit) = causes.WholeInstance
whole_base_cause (bases.Standard block) = causes.WholeInstance
whole_base_cause _ = causes.NoValue

abbrev pub whole_cause : Shape → Cause
whole_cause shape = if is_some shape.subscripts then causes.WholeArray else whole_base_cause shape.base
