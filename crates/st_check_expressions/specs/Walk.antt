-- What is known of each node of an expression: a fold, in which the children of a node stand for what is known of them.
use Rattle.std.specs.Prelude.{List, map}
use Rattle.st_tree.specs.declared.tree.expression.Argument.TheOpen.{Argument-F, Call-F, Expression-F, Operation-F, Part-F, Variable-F}
use Rattle.st_tree.specs.declared.tree.expression.Argument.{Argument, fold-Argument}
use Rattle.st_tree.specs.declared.tree.expression.Call.{Call, fold-Call}
use Rattle.st_tree.specs.declared.tree.expression.Expression.{Expression, fold-Expression}
use Rattle.st_tree.specs.declared.tree.expression.Operation.{Operation, fold-Operation}
use Rattle.st_tree.specs.declared.tree.expression.Part.{Part, fold-Part}
use Rattle.st_tree.specs.declared.tree.expression.Variable.{Variable, fold-Variable}
use Rattle.st_types.specs.Scopes.{Scope}
use Rattle.st_check_expressions.specs.Calls.{ArgumentKnown, CallKnown, value_of_call}
use Rattle.st_check_expressions.specs.Calls as calls
use Rattle.st_check_expressions.specs.Known.{Known, OperandKnown, chain, complemented, literal, negated, parenthesized}
use Rattle.st_check_expressions.specs.Variables.{PartKnown, VariableKnown, value_of, variable_of}
use Rattle.st_check_expressions.specs.Variables as variables

abbrev pub argument_step : Argument-F ArgumentKnown Known PartKnown CallKnown OperandKnown VariableKnown → ArgumentKnown
argument_step (Argument-F.Positional x) = calls.positional x
argument_step (Argument-F.Input name x) = calls.input name x
argument_step (Argument-F.Output name v) = calls.output name v

abbrev pub expression_step : Scope → Expression-F ArgumentKnown Known PartKnown CallKnown OperandKnown VariableKnown → Known
expression_step scope (Expression-F.Constant c) = literal c
expression_step scope (Expression-F.Variable v) = value_of v
expression_step scope (Expression-F.Call c) = value_of_call scope c
expression_step scope (Expression-F.Parenthesized position x) = parenthesized position x
expression_step scope (Expression-F.Negate position x) = negated position x
expression_step scope (Expression-F.Not position x) = complemented position x
expression_step scope (Expression-F.Chain position x ls) = chain position x ls

abbrev pub part_step : Part-F ArgumentKnown Known PartKnown CallKnown OperandKnown VariableKnown → PartKnown
part_step (Part-F.Field name) = variables.field name
part_step (Part-F.Subscripts position xs) = variables.subscripts position xs

abbrev pub call_step : Call-F ArgumentKnown Known PartKnown CallKnown OperandKnown VariableKnown → CallKnown
call_step c = record { name = c.name; arguments = c.arguments }

abbrev pub operation_step : Operation-F ArgumentKnown Known PartKnown CallKnown OperandKnown VariableKnown → OperandKnown
operation_step o = record { operator = o.operator; operand = o.operand }

abbrev pub variable_step : Scope → Variable-F ArgumentKnown Known PartKnown CallKnown OperandKnown VariableKnown → VariableKnown
variable_step scope v = variable_of scope v.name v.parts

abbrev pub known : Scope → Expression → Known
known scope x = fold-Expression ArgumentKnown Known PartKnown CallKnown OperandKnown VariableKnown argument_step (expression_step scope) part_step call_step operation_step (variable_step scope) x

abbrev pub known_variable : Scope → Variable → VariableKnown
known_variable scope x = fold-Variable ArgumentKnown Known PartKnown CallKnown OperandKnown VariableKnown argument_step (expression_step scope) part_step call_step operation_step (variable_step scope) x

abbrev pub known_call : Scope → Call → CallKnown
known_call scope x = fold-Call ArgumentKnown Known PartKnown CallKnown OperandKnown VariableKnown argument_step (expression_step scope) part_step call_step operation_step (variable_step scope) x

abbrev pub known_part : Scope → Part → PartKnown
known_part scope x = fold-Part ArgumentKnown Known PartKnown CallKnown OperandKnown VariableKnown argument_step (expression_step scope) part_step call_step operation_step (variable_step scope) x

abbrev pub known_operation : Scope → Operation → OperandKnown
known_operation scope x = fold-Operation ArgumentKnown Known PartKnown CallKnown OperandKnown VariableKnown argument_step (expression_step scope) part_step call_step operation_step (variable_step scope) x

abbrev pub known_argument : Scope → Argument → ArgumentKnown
known_argument scope x = fold-Argument ArgumentKnown Known PartKnown CallKnown OperandKnown VariableKnown argument_step (expression_step scope) part_step call_step operation_step (variable_step scope) x

-- ---- of lists of nodes

abbrev pub known_expressions : Scope → List Expression → List Known
known_expressions scope xs = map (known scope) xs

abbrev pub known_operations : Scope → List Operation → List OperandKnown
known_operations scope ls = map (known_operation scope) ls

abbrev pub known_parts : Scope → List Part → List PartKnown
known_parts scope parts = map (known_part scope) parts

abbrev pub known_arguments : Scope → List Argument → List ArgumentKnown
known_arguments scope arguments = map (known_argument scope) arguments
