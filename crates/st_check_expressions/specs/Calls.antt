-- What the rules say of calls in expressions (2.5.1.4).
use Rattle.std.specs.Prelude.{ℕ, ◌+◌, ◌==◌, Bool, true, false, ◌&&◌, ◌||◌, not, List, [], ◌∷◌, ◌++◌, map, length, Option, Some, None, if◌then◌else◌}
use Rattle.std.specs.List.{flat_map, list_all}
use Rattle.std.specs.Option.{is_some}
use Rattle.st_values.specs.declared.elem.Elem.{Elem}
use Rattle.st_tree.specs.declared.tree.position.Identifier.{Identifier}
use Rattle.st_tree.specs.declared.tree.position.Position.{Position}
use Rattle.st_faults.specs.Faults.{fault, when}
use Rattle.st_faults.specs.declared.fault.Fault.{Fault}
use Rattle.st_faults.specs.declared.fault.Rule.{Rule}
use Rattle.st_faults.specs.declared.fault.Rule.TheVariants as rules
use Rattle.st_types.specs.Names.{is_among}
use Rattle.st_types.specs.OwnTypes.{call_own, gives, nth_due, position_due, takes_count}
use Rattle.st_types.specs.Scopes.{Scope, elem_due}
use Rattle.st_types.specs.Signatures.{Input, Signature, input_number}
use Rattle.st_types.specs.declared.symbol.Callee.{Callee}
use Rattle.st_types.specs.declared.symbol.Callee.TheVariants as callees
use Rattle.st_types.specs.declared.symbol.Due.{Due}
use Rattle.st_types.specs.declared.symbol.Due.TheVariants as dues
use Rattle.st_check_expressions.specs.Known.{Known, faults_as, is_empty}
use Rattle.st_check_expressions.specs.Variables.{VariableKnown, target_faults}

-- an argument, by its position, by the name of an input, or by that of an output
pub data ArgumentKnown : Type 0 where
  positional : Known → ArgumentKnown
  input : Identifier → Known → ArgumentKnown
  output : Identifier → VariableKnown → ArgumentKnown

pub record CallKnown : Type 0 where
  pub name : Identifier
  pub arguments : List ArgumentKnown

abbrev pub positional_in : ArgumentKnown → List Known
positional_in (positional x) = x ∷ []
positional_in _ = []

abbrev pub input_in : ArgumentKnown → List Identifier
input_in (input name x) = name ∷ []
input_in _ = []

abbrev pub output_in : ArgumentKnown → List Identifier
output_in (output name v) = name ∷ []
output_in _ = []

abbrev pub positionals : List ArgumentKnown → List Known
positionals arguments = flat_map positional_in arguments

-- the names of inputs, in order
abbrev pub inputs : List ArgumentKnown → List Identifier
inputs arguments = flat_map input_in arguments

-- the names of outputs, in order
abbrev pub outputs : List ArgumentKnown → List Identifier
outputs arguments = flat_map output_in arguments

-- the own types of the arguments by position
abbrev pub owns_in : List ArgumentKnown → List (Option Elem)
owns_in arguments = map (λ x. x.own) (positionals arguments)

-- one of these names stands twice
abbrev pub is_repeated : List Identifier → Bool
is_repeated [] = false
is_repeated (n ∷ ns) = is_among n.spelling ns || is_repeated ns

-- ---- which arguments a function takes

abbrev pub is_input_of : Signature → Identifier → Bool
is_input_of f name = is_some (input_number f.inputs name.spelling)

-- all by position, or all by name, where some may be left out
abbrev pub are_own_arguments : Signature → ℕ → List Identifier → Bool
are_own_arguments f count names =
    if is_empty names then (count == 0) || (count == length f.inputs)
    else (count == 0) && not (is_repeated names) && list_all (is_input_of f) names

-- the callee takes so many arguments by position, and those by the names of inputs
abbrev pub takes_arguments : Callee → ℕ → List Identifier → Bool
takes_arguments (callees.Standard f) count names = is_empty names && takes_count f count
takes_arguments (callees.Conversion x y) count names = is_empty names && (count == 1)
takes_arguments (callees.Own f) count names = are_own_arguments f count names
takes_arguments _ count names = false

abbrev pub mismatch : Bool → Option Rule
mismatch fits = if fits then None else Some rules.CallMismatch

-- The rule that a call in an expression breaks at its name, with so many arguments by position, and those by the names of
-- inputs and of outputs. A function has no outputs.
abbrev pub rule_by : Callee → ℕ → List Identifier → List Identifier → Option Rule
rule_by callees.Missing count names others = Some rules.UnknownName
rule_by callees.Faulty count names others = None
rule_by callee count names others = mismatch (is_empty others && takes_arguments callee count names)

abbrev pub call_rule : Callee → List ArgumentKnown → Option Rule
call_rule callee arguments = rule_by callee (length (positionals arguments)) (inputs arguments) (outputs arguments)

abbrev pub broken : Position → Option Rule → List Fault
broken position None = []
broken position (Some rule) = fault position rule ∷ []

-- ---- the arguments

abbrev pub named_due : List Input → Option ℕ → Due
named_due inputs None = dues.Any
named_due inputs (Some i) = nth_due inputs i

-- what is asked of an argument by the name of an input
abbrev pub name_due : Callee → List ℕ → Due
name_due (callees.Own f) name = named_due f.inputs (input_number f.inputs name)
name_due _ name = dues.Any

-- of the argument of this number, from 0, where `whole` is asked of the call
abbrev pub argument_faults : Callee → Due → ℕ → ArgumentKnown → List Fault
argument_faults callee whole n (positional x) = faults_as x (position_due callee whole n)
argument_faults callee whole n (input name x) = faults_as x (name_due callee name.spelling)
argument_faults callee whole n (output name v) = target_faults [] v

abbrev pub arguments_faults : Callee → Due → ℕ → List ArgumentKnown → List Fault
arguments_faults callee whole n [] = []
arguments_faults callee whole n (a ∷ more) = argument_faults callee whole n a ++ arguments_faults callee whole (n + 1) more

-- ---- the call

abbrev pub is_faulty : Callee → Bool
is_faulty callees.Faulty = true
is_faulty _ = false

-- a call that fits no rule has no type that can be known
abbrev pub is_unknown_call : Callee → List ArgumentKnown → Bool
is_unknown_call callee arguments = is_some (call_rule callee arguments) || is_faulty callee

-- the callee gives the type that is due, or that can't be known
abbrev pub gives_due : Callee → Option Elem → Bool
gives_due callee None = true
gives_due callee (Some e) = gives callee e

abbrev pub call_faults : Callee → CallKnown → Position → Option Elem → List Fault
call_faults callee c at due =
    broken c.name.position (call_rule callee c.arguments)
    ++ arguments_faults callee (elem_due due) 0 c.arguments
    ++ when (not (is_unknown_call callee c.arguments || gives_due callee due)) (fault at rules.TypeMismatch)

abbrev pub called : Callee → CallKnown → Known
called callee c = record {
  position = c.name.position;
  own = call_own callee (owns_in c.arguments);
  fits_all = is_unknown_call callee c.arguments;
  faults_at = λ at e. call_faults callee c at (Some e);
  faults_open = λ at. call_faults callee c at None;
}

abbrev pub value_of_call : Scope → CallKnown → Known
value_of_call scope c = called (scope.callee c.name.spelling) c
