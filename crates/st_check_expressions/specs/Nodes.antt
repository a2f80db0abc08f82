-- What a node of an expression shows by itself.
use Rattle.std.specs.Prelude.{List, [], ◌∷◌, Option, length, map}
use Rattle.std.specs.List.{flat_map}
use Rattle.st_tree.specs.declared.operator.BinOp.{BinOp}
use Rattle.st_tree.specs.declared.tree.expression.Argument.TheOpen.{Argument-F, Expression-F}
use Rattle.st_tree.specs.declared.tree.expression.Argument.{Argument, out-Argument}
use Rattle.st_tree.specs.declared.tree.expression.Call.{Call}
use Rattle.st_tree.specs.declared.tree.expression.Expression.{Expression, out-Expression}
use Rattle.st_tree.specs.declared.tree.expression.Operation.{Operation}
use Rattle.st_tree.specs.declared.tree.expression.Part.{Part}
use Rattle.st_tree.specs.declared.tree.expression.Variable.{Variable}
use Rattle.st_tree.specs.declared.tree.position.Identifier.{Identifier}
use Rattle.st_tree.specs.declared.tree.position.Position.{Position}
use Rattle.st_faults.specs.declared.fault.Rule.{Rule}
use Rattle.st_types.specs.declared.symbol.Callee.{Callee}
use Rattle.st_check_expressions.specs.Calls.{rule_by}
use Rattle.st_check_expressions.specs.Known.{literal_position}

-- ---- where an expression begins

abbrev pub begins_at : Expression-F Argument Expression Part Call Operation Variable → Position
begins_at (Expression-F.Constant c) = literal_position c
begins_at (Expression-F.Variable v) = v.name.position
begins_at (Expression-F.Call c) = c.name.position
begins_at (Expression-F.Parenthesized position x) = position
begins_at (Expression-F.Negate position x) = position
begins_at (Expression-F.Not position x) = position
begins_at (Expression-F.Chain position x ls) = position

abbrev pub position_of : Expression → Position
position_of x = begins_at (out-Expression x)

-- ---- operators

abbrev pub operators_in : List Operation → List BinOp
operators_in operations = map (λ o. o.operator) operations

-- ---- arguments

abbrev pub positional_at : Argument-F Argument Expression Part Call Operation Variable → List Expression
positional_at (Argument-F.Positional x) = x ∷ []
positional_at _ = []

abbrev pub input_at : Argument-F Argument Expression Part Call Operation Variable → List Identifier
input_at (Argument-F.Input name x) = name ∷ []
input_at _ = []

abbrev pub output_at : Argument-F Argument Expression Part Call Operation Variable → List Identifier
output_at (Argument-F.Output name v) = name ∷ []
output_at _ = []

abbrev pub positional_of : Argument → List Expression
positional_of a = positional_at (out-Argument a)

abbrev pub input_of : Argument → List Identifier
input_of a = input_at (out-Argument a)

abbrev pub output_of : Argument → List Identifier
output_of a = output_at (out-Argument a)

-- the values that stand by their position
abbrev pub positionals_of : List Argument → List Expression
positionals_of arguments = flat_map positional_of arguments

-- the names of inputs, in order
abbrev pub inputs_of : List Argument → List Identifier
inputs_of arguments = flat_map input_of arguments

-- the names of outputs, in order
abbrev pub outputs_of : List Argument → List Identifier
outputs_of arguments = flat_map output_of arguments

-- the rule that a call with these arguments breaks at its name
abbrev pub rule_of : Callee → List Argument → Option Rule
rule_of callee arguments = rule_by callee (length (positionals_of arguments)) (inputs_of arguments) (outputs_of arguments)
