-- The types of tokens and of the trees, from one place.
use Rattle.st_tokens.specs.declared.keyword.Keyword as keyword
use Rattle.st_tokens.specs.declared.symbol.Symbol as symbol
use Rattle.st_tokens.specs.declared.token.Kind as kind
use Rattle.st_tokens.specs.declared.token.Token as token
use Rattle.st_tree.specs.declared.tree.position.Position as position
use Rattle.st_tree.specs.declared.tree.position.Identifier as identifier
use Rattle.st_tree.specs.declared.tree.constant.Constant as constant
use Rattle.st_tree.specs.declared.tree.constant.Duration as duration
use Rattle.st_tree.specs.declared.tree.constant.SignedInteger as signed_integer
use Rattle.st_tree.specs.declared.tree.expression.Expression as expression
use Rattle.st_tree.specs.declared.tree.expression.Operation as operation
use Rattle.st_tree.specs.declared.tree.expression.Variable as variable
use Rattle.st_tree.specs.declared.tree.expression.Part as part
use Rattle.st_tree.specs.declared.tree.expression.Call as call
use Rattle.st_tree.specs.declared.tree.expression.Argument as argument
use Rattle.st_tree.specs.declared.tree.statement.Statement as statement
use Rattle.st_tree.specs.declared.tree.statement.ConditionalPart as conditional_part
use Rattle.st_tree.specs.declared.tree.statement.CaseElement as case_element
use Rattle.st_tree.specs.declared.tree.statement.Label as label
use Rattle.st_tree.specs.declared.tree.declaration.TypeName as type_name
use Rattle.st_tree.specs.declared.tree.declaration.Subrange as subrange
use Rattle.st_tree.specs.declared.tree.declaration.Specification as specification
use Rattle.st_tree.specs.declared.tree.declaration.Initial as initial
use Rattle.st_tree.specs.declared.tree.declaration.ArrayElement as array_element
use Rattle.st_tree.specs.declared.tree.declaration.Declaration as declaration
use Rattle.st_tree.specs.declared.tree.declaration.VarKind as var_kind
use Rattle.st_tree.specs.declared.tree.declaration.VarBlock as var_block
use Rattle.st_tree.specs.declared.tree.declaration.DeclaredType as declared_type
use Rattle.st_tree.specs.declared.tree.unit.Unit as unit
use Rattle.st_tree.specs.declared.tree.unit.TypeDeclaration as type_declaration
use Rattle.st_tree.specs.declared.tree.unit.Function as function
use Rattle.st_tree.specs.declared.tree.unit.Pou as pou
use Rattle.st_tree.specs.declared.tree.unit.Body as body
use Rattle.st_tree.specs.declared.tree.unit.ChartElement as chart_element
use Rattle.st_tree.specs.declared.tree.unit.Step as step
use Rattle.st_tree.specs.declared.tree.unit.Association as association
use Rattle.st_tree.specs.declared.tree.unit.ActionQualifier as action_qualifier
use Rattle.st_tree.specs.declared.tree.unit.Transition as transition
use Rattle.st_tree.specs.declared.tree.unit.Action as action
use Rattle.st_tree.specs.declared.operator.BinOp as bin_op
use Rattle.st_parser.specs.declared.fault.ReadFault as fault

-- ---- tokens

abbrev pub Keyword : Type 0
Keyword = keyword.Keyword

abbrev pub Symbol : Type 0
Symbol = symbol.Symbol

abbrev pub Kind : Type 0
Kind = kind.Kind

abbrev pub Token : Type 0
Token = token.Token

abbrev pub ReadFault : Type 0
ReadFault = fault.ReadFault

-- ---- trees

abbrev pub Position : Type 0
Position = position.Position

abbrev pub Identifier : Type 0
Identifier = identifier.Identifier

abbrev pub BinOp : Type 0
BinOp = bin_op.BinOp

abbrev pub Constant : Type 0
Constant = constant.Constant

abbrev pub Duration : Type 0
Duration = duration.Duration

abbrev pub SignedInteger : Type 0
SignedInteger = signed_integer.SignedInteger

abbrev pub Expression : Type 0
Expression = expression.Expression

abbrev pub Operation : Type 0
Operation = operation.Operation

abbrev pub Variable : Type 0
Variable = variable.Variable

abbrev pub Part : Type 0
Part = part.Part

abbrev pub Call : Type 0
Call = call.Call

abbrev pub Argument : Type 0
Argument = argument.Argument

abbrev pub Statement : Type 0
Statement = statement.Statement

abbrev pub ConditionalPart : Type 0
ConditionalPart = conditional_part.ConditionalPart

abbrev pub CaseElement : Type 0
CaseElement = case_element.CaseElement

abbrev pub Label : Type 0
Label = label.Label

abbrev pub TypeName : Type 0
TypeName = type_name.TypeName

abbrev pub Subrange : Type 0
Subrange = subrange.Subrange

abbrev pub Specification : Type 0
Specification = specification.Specification

abbrev pub Initial : Type 0
Initial = initial.Initial

abbrev pub ArrayElement : Type 0
ArrayElement = array_element.ArrayElement

abbrev pub Declaration : Type 0
Declaration = declaration.Declaration

abbrev pub VarKind : Type 0
VarKind = var_kind.VarKind

abbrev pub VarBlock : Type 0
VarBlock = var_block.VarBlock

abbrev pub DeclaredType : Type 0
DeclaredType = declared_type.DeclaredType

abbrev pub Unit : Type 0
Unit = unit.Unit

abbrev pub TypeDeclaration : Type 0
TypeDeclaration = type_declaration.TypeDeclaration

abbrev pub Function : Type 0
Function = function.Function

abbrev pub Pou : Type 0
Pou = pou.Pou

abbrev pub Body : Type 0
Body = body.Body

abbrev pub ChartElement : Type 0
ChartElement = chart_element.ChartElement

abbrev pub Step : Type 0
Step = step.Step

abbrev pub Association : Type 0
Association = association.Association

abbrev pub ActionQualifier : Type 0
ActionQualifier = action_qualifier.ActionQualifier

abbrev pub Transition : Type 0
Transition = transition.Transition

abbrev pub Action : Type 0
Action = action.Action
