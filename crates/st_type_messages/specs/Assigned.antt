-- Why something may not be assigned.
use Rattle.std.specs.Prelude.{ℕ, Bool, false, if◌then◌else◌, List, Option, Some, None, option_map}
use Rattle.st_values.specs.declared.elem.Elem.{Elem}
use Rattle.st_operators.specs.Operators.{is_integer}
use Rattle.st_types.specs.Scopes.{Scope}
use Rattle.st_types.specs.Types.{elem_of}
use Rattle.st_types.specs.declared.symbol.Symbol.{Symbol}
use Rattle.st_types.specs.declared.base.Purpose.{Purpose}
use Rattle.st_types.specs.declared.base.Purpose.TheVariants as purposes
use Rattle.st_type_messages.specs.declared.cause.Cause.{Cause}
use Rattle.st_type_messages.specs.declared.cause.Cause.TheVariants as causes

-- what is for this purpose
abbrev pub purpose_cause : Option Purpose → Option Cause
purpose_cause (Some purposes.Constant) = Some causes.Constant
purpose_cause (Some purposes.Input) = Some causes.Input
purpose_cause _ = None

abbrev pub purpose_of : Scope → List ℕ → Option Purpose
purpose_of scope name = option_map (λ (s : Symbol). s.purpose) (scope.variable name)

-- a whole variable, or a part of a step or of another variable
abbrev pub part_cause : Bool → Bool → Cause
part_cause is_whole is_step =
    if is_whole then causes.Counted else if is_step then causes.StepPart else causes.InstancePart

abbrev pub is_number_type : Option Elem → Bool
is_number_type None = false
is_number_type (Some elem) = is_integer elem

abbrev pub is_number_symbol : Option Symbol → Bool
is_number_symbol None = false
is_number_symbol (Some s) = is_number_type (elem_of s.shape)

-- the name is that of a variable of an integer type
abbrev pub is_number : Scope → List ℕ → Bool
is_number scope name = is_number_symbol (scope.variable name)

-- a name that FOR counts
abbrev pub or_count : Option Cause → Bool → Cause
or_count (Some cause) is_number = cause
or_count None is_number = if is_number then causes.CountedTwice else causes.NotCounted

abbrev pub counter_cause : Scope → List ℕ → Cause
counter_cause scope name = or_count (purpose_cause (purpose_of scope name)) (is_number scope name)
