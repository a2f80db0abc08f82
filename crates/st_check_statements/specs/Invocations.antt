-- What the rules say of call statements, which invoke instances of function blocks (3.3.2.2).
use Rattle.std.specs.Prelude.{ℕ, Bool, true, false, ◌&&◌, ◌||◌, not, List, [], ◌++◌, Option, Some, None, if◌then◌else◌}
use Rattle.std.specs.List.{flat_map, list_all}
use Rattle.st_values.specs.Types.{is_same}
use Rattle.st_values.specs.declared.elem.Elem.{Elem}
use Rattle.st_tree.specs.declared.tree.position.Identifier.{Identifier}
use Rattle.st_tree.specs.declared.tree.position.Position.{Position}
use Rattle.st_faults.specs.Faults.{fault, when}
use Rattle.st_faults.specs.declared.fault.Fault.{Fault}
use Rattle.st_faults.specs.declared.fault.Rule.{Rule}
use Rattle.st_faults.specs.declared.fault.Rule.TheVariants as rules
use Rattle.st_types.specs.Scopes.{Scope, shape_due}
use Rattle.st_types.specs.Types.{Shape, elem_of, is_unknown}
use Rattle.st_types.specs.declared.base.Base.{Base}
use Rattle.st_types.specs.declared.base.Purpose.{Purpose}
use Rattle.st_types.specs.declared.base.Purpose.TheVariants as purposes
use Rattle.st_types.specs.declared.symbol.Callee.{Callee}
use Rattle.st_types.specs.declared.symbol.Callee.TheVariants as callees
use Rattle.st_types.specs.declared.symbol.Due.{Due}
use Rattle.st_types.specs.declared.symbol.Due.TheVariants as dues
use Rattle.st_types.specs.declared.symbol.Symbol.{Symbol}
use Rattle.st_check_expressions.specs.Calls.{ArgumentKnown, CallKnown, arguments_faults, broken, inputs, is_repeated, outputs, positionals}
use Rattle.st_check_expressions.specs.Calls as calls
use Rattle.st_check_expressions.specs.Known.{faults_as, is_empty}
use Rattle.st_check_expressions.specs.Variables.{VariableKnown, target_faults}

abbrev pub is_input_purpose : Purpose → Bool
is_input_purpose purposes.Input = true
is_input_purpose _ = false

abbrev pub is_output_purpose : Purpose → Bool
is_output_purpose purposes.Output = true
is_output_purpose _ = false

-- what stands for a name in an instance is an input
abbrev pub is_input : Option Symbol → Bool
is_input None = false
is_input (Some s) = is_input_purpose s.purpose

-- or an output
abbrev pub is_output : Option Symbol → Bool
is_output None = false
is_output (Some s) = is_output_purpose s.purpose

-- what stands for this name in an instance
abbrev pub pin : Scope → Base → Identifier → Option Symbol
pin scope base name = (scope.member base name.spelling).symbol

-- ---- the arguments

-- what is asked of a value that goes into an input
abbrev pub input_due : Option Symbol → Due
input_due None = dues.Any
input_due (Some s) = if is_input_purpose s.purpose then shape_due s.shape else dues.Any

-- there is a type, and it is another than the output's
abbrev pub are_other : Option Elem → Option Elem → Bool
are_other None output = false
are_other (Some a) None = true
are_other (Some a) (Some b) = not (is_same a b)

-- what takes an output is one value of another type than the output
abbrev pub is_other : Shape → Shape → Bool
is_other target output = not (is_unknown target.base || is_unknown output.base) && are_other (elem_of target) (elem_of output)

-- of what takes an output, at its position
abbrev pub taker_faults : Position → Shape → Option Symbol → List Fault
taker_faults at target None = []
taker_faults at target (Some s) = when (is_output_purpose s.purpose && is_other target s.shape) (fault at rules.TypeMismatch)

-- a variable that takes the output of this name
abbrev pub output_faults : Scope → Base → List (List ℕ) → Identifier → VariableKnown → List Fault
output_faults scope base counters name v = target_faults counters v ++ taker_faults v.name.position v.reached.shape (pin scope base name)

-- an argument of an invocation, in loops that count these variables
abbrev pub pin_faults : Scope → Base → List (List ℕ) → ArgumentKnown → List Fault
pin_faults scope base counters (calls.positional x) = faults_as x dues.Any
pin_faults scope base counters (calls.input name x) = faults_as x (input_due (pin scope base name))
pin_faults scope base counters (calls.output name v) = output_faults scope base counters name v

-- each of these names is that of an input, and none stands twice
abbrev pub are_inputs : Scope → Base → List Identifier → Bool
are_inputs scope base names = not (is_repeated names) && list_all (λ name. is_input (pin scope base name)) names

-- or that of an output
abbrev pub are_outputs : Scope → Base → List Identifier → Bool
are_outputs scope base names = not (is_repeated names) && list_all (λ name. is_output (pin scope base name)) names

-- All arguments have names: those of inputs, and those of outputs, none of them twice.
abbrev pub are_pins : Scope → Base → List ArgumentKnown → Bool
are_pins scope base arguments = is_empty (positionals arguments) && are_inputs scope base (inputs arguments) && are_outputs scope base (outputs arguments)

-- ---- the statement

-- of an invocation
abbrev pub invocation_faults : Scope → List (List ℕ) → CallKnown → Base → List Fault
invocation_faults scope counters c base =
    when (not (are_pins scope base c.arguments)) (fault c.name.position rules.CallMismatch) ++ flat_map (pin_faults scope base counters) c.arguments

-- the rule that a call statement breaks that invokes no instance
abbrev pub statement_rule : Callee → Option Rule
statement_rule callees.Missing = Some rules.UnknownName
statement_rule callees.Faulty = None
statement_rule _ = Some rules.CallMismatch

-- of such a call statement
abbrev pub other_faults : CallKnown → Callee → List Fault
other_faults c callee = broken c.name.position (statement_rule callee) ++ arguments_faults callee dues.Any 0 c.arguments

abbrev pub call_faults_by : Scope → List (List ℕ) → CallKnown → Callee → List Fault
call_faults_by scope counters c (callees.Instance base) = invocation_faults scope counters c base
call_faults_by scope counters c callee = other_faults c callee

-- of a call statement, in loops that count these variables
abbrev pub call_statement_faults : Scope → List (List ℕ) → CallKnown → List Fault
call_statement_faults scope counters c = call_faults_by scope counters c (scope.callee c.name.spelling)
