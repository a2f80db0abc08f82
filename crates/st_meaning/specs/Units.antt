-- The units of a text as they run: what the names in the statements of a unit stand for, and what the instances of function blocks
-- and the functions among them do (2.5.1, 2.5.2, 3.3.2.2).
use Rattle.std.specs.Char.{to_ascii_uppercase}
use Rattle.std.specs.Prelude.{ℕ, zero, suc, pos, List, [], ◌∷◌, ◌++◌, map, codes, length, Option, Some, None, if◌then◌else◌}
use Rattle.st_values.specs.Words.{is_word}
use Rattle.st_values.specs.declared.value.Value.{Value}
use Rattle.st_tree.specs.declared.tree.declaration.Specification.TheVariants as specifications
use Rattle.st_tree.specs.declared.tree.declaration.TypeName.TheVariants as type_names
use Rattle.st_tree.specs.declared.tree.declaration.VarKind.{VarKind}
use Rattle.st_tree.specs.declared.tree.declaration.VarKind.TheVariants as var_kinds
use Rattle.st_tree.specs.declared.tree.statement.Statement.{Statement}
use Rattle.st_tree.specs.declared.tree.unit.Body.{Body as Written}
use Rattle.st_tree.specs.declared.tree.unit.Body.TheVariants as bodies
use Rattle.st_tree.specs.declared.tree.unit.Function.{Function}
use Rattle.st_types.specs.Compositions.{Composition, elementary, composed, Members, none, member, composition_within, declared_composition, members_by, unit_composition}
use Rattle.st_types.specs.Initials.{zero_of}
use Rattle.st_types.specs.Names.{Declared, Declares, Named, number_of, unit_at, variables_in, variables_of}
use Rattle.st_types.specs.Names as names
use Rattle.st_leaves.specs.LeavesIn.{leaves_in}
use Rattle.st_meaning.specs.Meaning.{Calls, Values, no_value}
use Rattle.st_meaning.specs.Operations.{Answer, gives, stops, stop}
use Rattle.st_meaning.specs.Statements.{Outcome, Setting, done, exited, returned, faulted, body_meaning}
use Rattle.st_meaning.specs.Terms.{Body, plain_body}
use Rattle.st_meaning.specs.Typing.{body_in, body_of}
use Rattle.st_meaning.specs.Wholes.{Called, Functions, Input, Invoked, Whole, constant_among}
use Rattle.st_meaning.specs.declared.fault.RunFaultKind.TheVariants as faults

-- ---- statements

abbrev pub statements_in : Written → List Statement
statements_in (bodies.Statements statements) = statements
statements_in (bodies.Chart elements) = []

-- the statements of a unit's body
abbrev pub statements_of : Declares → List Statement
statements_of (names.block b) = statements_in b.body
statements_of (names.program p) = statements_in p.body
statements_of (names.function f) = f.statements
statements_of _ = []

-- ---- functions (2.5.1)

-- an input is elementary
abbrev pub input_in : List ℕ → VarKind → Composition → Option Input
input_in name var_kinds.Input (elementary v) = Some (record { name = name; initial = v })
input_in name _ _ = None

abbrev pub with_input : Option Input → List Input → List Input
with_input None inputs = inputs
with_input (Some i) inputs = i ∷ inputs

-- the inputs among variables, in order
abbrev pub inputs_in : Members → List Input
inputs_in none = []
inputs_in (member name kind c ms) = with_input (input_in name kind c) (inputs_in ms)

-- what the variables of a function consist of: its result, under its own name, and what is declared
abbrev pub members_of_function : List Named → Function → Members
members_of_function units f =
    member f.name.spelling var_kinds.Internal (elementary (zero_of f.result)) (members_by units (composition_within units (suc (length units))) (variables_of f.variables))

-- the result as what is declared
abbrev pub result_declared : Function → Declared
result_declared f = record {
  name = f.name;
  kind = var_kinds.Internal;
  specification = specifications.Simple (type_names.Elementary f.position f.result);
  initial = None;
}

abbrev pub called_as : List Named → ℕ → Declares → Option Called
called_as units number (names.function f) = Some (record { number = number; result = f.result; inputs = inputs_in (members_of_function units f) })
called_as units number _ = None

abbrev pub called_by : List Named → ℕ → Option Named → Option Called
called_by units number None = None
called_by units number (Some unit) = called_as units number unit.declares

-- the function that the unit of this number is
abbrev pub function_at : List Named → Functions
function_at units number = called_by units number (unit_at units number)

abbrev pub function_by : List Named → Option ℕ → Option Called
function_by units None = None
function_by units (Some number) = function_at units number

-- the functions by the names of their units
abbrev pub functions_in : List Named → List ℕ → Option Called
functions_in units name = function_by units (number_of units name)

-- ---- instances

-- a unit whose variables consist of this, where names are instances so
abbrev pub whole_with : List Named → Declares → Composition → (List ℕ → Option Invoked) → Whole
whole_with units unit variables invoked = record {
  variables = variables;
  constants = constant_among (declared_composition units (composition_within units (suc (length units)))) (variables_in unit);
  invoked = invoked;
  functions = functions_in units;
}

-- of a function block, by its number: its body runs over the variables of the instance
abbrev pub block_invoked : List Named → ℕ → Composition → (List ℕ → Option Invoked) → Declares → Option Invoked
block_invoked units number c inside (names.block b) =
    Some (record { number = number; body = body_in (whole_with units (names.block b) c inside) number (statements_of (names.block b)) })
block_invoked units number c inside _ = None

abbrev pub unit_invoked : List Named → ℕ → Composition → (List ℕ → Option Invoked) → Option Named → Option Invoked
unit_invoked units number c inside None = None
unit_invoked units number c inside (Some unit) = block_invoked units number c inside unit.declares

abbrev pub number_invoked : List Named → Composition → (List ℕ → Option Invoked) → Option ℕ → Option Invoked
number_invoked units c inside None = None
number_invoked units c inside (Some number) = unit_invoked units number c inside (unit_at units number)

abbrev mutual
  -- what is an instance of a function block bears the name of the block, and its own names are instances again
  pub instance_of : List Named → Composition → Option Invoked
  instance_of units (composed name ms chart) = number_invoked units (composed name ms chart) (member_instance units ms) (number_of units name)
  instance_of units _ = None

  -- the first member of a name
  pub member_instance : List Named → Members → List ℕ → Option Invoked
  member_instance units none name = None
  member_instance units (member other kind c ms) name = if is_word other name then instance_of units c else member_instance units ms name

-- which names of a whole are instances
abbrev pub instances_in : List Named → Composition → List ℕ → Option Invoked
instances_in units (composed whole ms chart) name = member_instance units ms name
instances_in units _ name = None

-- ---- units

-- what the variables of a unit are named as: those of a function block as its instances are
abbrev pub root_name : List ℕ → Declares → List ℕ
root_name name (names.block b) = map to_ascii_uppercase name
root_name name _ = codes "PROGRAM"

abbrev pub unit_root : List Named → List ℕ → Declares → Composition
unit_root units name (names.function f) = composed name (members_of_function units f) []
unit_root units name unit = unit_composition units (composition_within units (suc (length units))) name unit

-- what the variables of a unit consist of
abbrev pub root_of : List Named → Named → Composition
root_of units unit = unit_root units (root_name unit.name.spelling unit.declares) unit.declares

-- what the names in the statements of a unit stand for
unfoldable pub unit_whole : List Named → Named → Whole
unit_whole units unit = whole_with units unit.declares (root_of units unit) (instances_in units (root_of units unit))

-- what the body of a unit is, which has this number
abbrev pub body_of_unit : List Named → ℕ → Named → Body
body_of_unit units number unit = body_in (unit_whole units unit) number (statements_of unit.declares)

-- ---- calls of functions (2.5.1, 3.3.1)

-- the values that variables begin with
abbrev pub begun : Composition → Values
begun c = map (λ l. l.initial) (leaves_in c)

-- an input has the first of the values that are given, where it is one
abbrev pub variable_begun : Composition → Option Input → (Values → Values) → Values → Values
variable_begun c None more given = begun c ++ more given
variable_begun c (Some i) more [] = i.initial ∷ more []
variable_begun c (Some i) more (v ∷ given) = v ∷ more given

-- the variables are fresh in each call: all begin with their initial values but the inputs, which have the values that are given
abbrev pub members_begun : Members → Values → Values
members_begun none given = []
members_begun (member name kind c ms) given = variable_begun c (input_in name kind c) (members_begun ms) given

-- the result stands before all other variables
abbrev pub result_of : Values → Value
result_of [] = no_value
result_of (v ∷ values) = v

-- the body ends behind its last statement, or at RETURN
abbrev pub result_given : Outcome → Answer Value
result_given (done values left) = gives (result_of values) left
result_given (exited values left) = gives (result_of values) left
result_given (returned values left) = gives (result_of values) left
result_given (faulted f) = stops f

-- no variable of a function is forced, and none measures time
abbrev pub function_setting : Setting
function_setting = record { now = pos 0; forced = [] }

-- a number that is none of a function isn't called
abbrev pub no_function : Answer Value
no_function = stops (stop faults.StepLimit 0)

abbrev pub function_given : List Named → Calls → Named → Declares → Values → ℕ → Answer Value
function_given units calls unit (names.function f) inputs left =
    result_given (body_meaning calls (root_of units unit) function_setting (plain_body (body_of (unit_whole units unit) (statements_of unit.declares))) (members_begun (members_of_function units f) inputs) left)
function_given units calls unit _ inputs left = no_function

abbrev pub unit_given : List Named → Calls → Option Named → Values → ℕ → Answer Value
unit_given units calls None inputs left = no_function
unit_given units calls (Some unit) inputs left = function_given units calls unit unit.declares inputs left

-- What the functions give, through at most so many units. No function of a program that keeps the rules calls itself, directly or
-- through others, so that as many as there are are enough.
unfoldable pub calls_in : List Named → ℕ → Calls
calls_in units zero number inputs left = no_function
calls_in units (suc more) number inputs left = unit_given units (calls_in units more) (unit_at units number) inputs left

-- what the functions of a text give
abbrev pub calls_of : List Named → Calls
calls_of units = calls_in units (suc (length units))
