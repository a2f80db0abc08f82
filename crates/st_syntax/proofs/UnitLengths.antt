-- The tokens of units are at least as many as their length says.
use Rattle.std.proofs.Common.{ℕ, ◌+◌, ◌*◌, ◌≤◌, List, length, map, Option, arith}
use Rattle.st_tree.specs.declared.tree.unit.ChartElement.TheVariants as chart_elements
use Rattle.st_parser.specs.Grammar.Lists.{IsMany, none, more, IsNext, comma, IsListed, listed}
use Rattle.st_parser.specs.Grammar.Tokens.{Tok}
use Rattle.st_parser.specs.Names as names
use Rattle.st_parser.specs.Names.{ActionQualifier, ArrayElement, Association, Body, ChartElement, Declaration, DeclaredType, Identifier, Initial, Position, Pou, SignedInteger, Specification, Step, Subrange, Transition, TypeDeclaration, TypeName, VarBlock, VarKind}
use Rattle.st_syntax.specs.Grammar.Charts.{IsQualifier, untimed, timed, IsAssociation, unqualified, qualified, IsStepRest, step_rest, IsOptionalName, no_name, a_name, IsPriority, no_priority, priority, IsName, name, IsNames, one_name, names as name_list, IsTransitionRest, transition_rest, IsElement, initial_step, plain_step, transition, action, IsChart, chart}
use Rattle.st_syntax.specs.Lengths.{block_length, body_length, chart_length, declaration_length, total, text_length, unit_length, variables_length}
use Rattle.st_syntax.specs.Grammar.Declarations.{IsTypeName, elementary, declared, IsSubrange, subrange, IsSpecification, simple, array, IsArrayElement, single, repeated_default, repeated, IsInitial, initial_constant, initial_array, IsInitialized, uninitialized, initialized, IsDeclaration, declaration, IsMember, member, IsRetention, unsaid, retained, not_retained, IsInternal, variable, constant, IsVarBlock, internal, input, output}
use Rattle.st_syntax.specs.Grammar.Units.{IsDeclared, derived, structure, IsTypeDeclaration, type_declaration, IsBody, plain_body, chart_body, IsPou, pou, IsUnit, types, function, function_block, program}
use Rattle.st_syntax.proofs.ExpressionLengths.{binary_takes, constant_takes, integer_takes}
use Rattle.st_syntax.proofs.StatementLengths.{statements_take}

-- ---- charts

qualifier_takes : {ts rest : List Tok} {x : ActionQualifier} → IsQualifier ts x rest → length rest ≤ length ts
qualifier_takes untimed = omega arith
qualifier_takes timed = omega arith

association_takes : {ts rest : List Tok} {x : Association} → IsAssociation ts x rest → 1 + length rest ≤ length ts
association_takes unqualified = omega arith
association_takes (qualified d) = omega (arith, qualifier_takes d)

associations_take : {ts rest : List Tok} {xs : List Association} → IsMany IsAssociation ts xs rest → length xs + length rest ≤ length ts
associations_take none = omega arith
associations_take (more d e) = omega (arith, association_takes d, associations_take e)

step_takes : {p : Position} {initial : _} {ts rest : List Tok} {x : Step} → IsStepRest p initial ts x rest → length x.associations + length rest ≤ length ts
step_takes (step_rest d) = omega (arith, associations_take d)

optional_name_takes : {ts rest : List Tok} {x : Option Identifier} → IsOptionalName ts x rest → length rest ≤ length ts
optional_name_takes no_name = omega arith
optional_name_takes a_name = omega arith

priority_takes : {ts rest : List Tok} {x : Option ℕ} → IsPriority ts x rest → length rest ≤ length ts
priority_takes no_priority = omega arith
priority_takes (priority is) = omega arith

name_takes : {ts rest : List Tok} {x : Identifier} → IsName ts x rest → 1 + length rest ≤ length ts
name_takes name = omega arith

next_names_take : {ts rest : List Tok} {xs : List Identifier} → IsMany (IsNext IsName) ts xs rest → 2 * length xs + length rest ≤ length ts
next_names_take none = omega arith
next_names_take (more (comma d) e) = omega (arith, name_takes d, next_names_take e)

names_take : {ts rest : List Tok} {xs : List Identifier} → IsNames ts xs rest → length rest ≤ length ts
names_take (one_name d) = omega (arith, name_takes d)
names_take (name_list d e) = omega (arith, name_takes d, next_names_take e)

transition_takes : {p : Position} {ts rest : List Tok} {x : Transition} → IsTransitionRest p ts x rest → chart_length (chart_elements.Transition x) + length rest ≤ length ts
transition_takes (transition_rest d e f g h) = omega (arith, optional_name_takes d, priority_takes e, names_take f, names_take g, binary_takes h)

element_takes : {ts rest : List Tok} {x : ChartElement} → IsElement ts x rest → chart_length x + length rest ≤ length ts
element_takes (initial_step d) = omega (arith, step_takes d)
element_takes (plain_step d) = omega (arith, step_takes d)
element_takes (transition d) = omega (arith, transition_takes d)
element_takes (action d) = omega (arith, statements_take d)

elements_take : {ts rest : List Tok} {xs : List ChartElement} → IsMany IsElement ts xs rest → total (map chart_length xs) + length rest ≤ length ts
elements_take none = omega arith
elements_take (more d e) = omega (arith, element_takes d, elements_take e)

chart_takes : {ts rest : List Tok} {xs : List ChartElement} → IsChart ts xs rest → total (map chart_length xs) + length rest ≤ length ts
chart_takes (chart d e) = omega (arith, element_takes d, elements_take e)

-- ---- declarations

type_takes : {ts rest : List Tok} {x : TypeName} → IsTypeName ts x rest → length rest ≤ length ts
type_takes elementary = omega arith
type_takes declared = omega arith

subrange_takes : {ts rest : List Tok} {x : Subrange} → IsSubrange ts x rest → length rest ≤ length ts
subrange_takes (subrange d e) = omega (arith, integer_takes d, integer_takes e)

next_subranges_take : {ts rest : List Tok} {xs : List Subrange} → IsMany (IsNext IsSubrange) ts xs rest → length rest ≤ length ts
next_subranges_take none = omega arith
next_subranges_take (more (comma d) e) = omega (arith, subrange_takes d, next_subranges_take e)

subranges_take : {ts rest : List Tok} {xs : List Subrange} → IsListed IsSubrange ts xs rest → length rest ≤ length ts
subranges_take (listed d e) = omega (arith, subrange_takes d, next_subranges_take e)

specification_takes : {ts rest : List Tok} {x : Specification} → IsSpecification ts x rest → length rest ≤ length ts
specification_takes (simple d) = type_takes d
specification_takes (array d e) = omega (arith, subranges_take d, type_takes e)

array_element_takes : {ts rest : List Tok} {x : ArrayElement} → IsArrayElement ts x rest → length rest ≤ length ts
array_element_takes (single d) = omega (arith, constant_takes d)
array_element_takes repeated_default = omega arith
array_element_takes (repeated d) = omega (arith, constant_takes d)

next_array_elements_take : {ts rest : List Tok} {xs : List ArrayElement} → IsMany (IsNext IsArrayElement) ts xs rest → length rest ≤ length ts
next_array_elements_take none = omega arith
next_array_elements_take (more (comma d) e) = omega (arith, array_element_takes d, next_array_elements_take e)

array_elements_take : {ts rest : List Tok} {xs : List ArrayElement} → IsListed IsArrayElement ts xs rest → length rest ≤ length ts
array_elements_take (listed d e) = omega (arith, array_element_takes d, next_array_elements_take e)

initial_takes : {ts rest : List Tok} {x : Initial} → IsInitial ts x rest → length rest ≤ length ts
initial_takes (initial_constant d) = omega (arith, constant_takes d)
initial_takes (initial_array d) = omega (arith, array_elements_take d)

initialized_takes : {ts rest : List Tok} {x : Option Initial} → IsInitialized ts x rest → length rest ≤ length ts
initialized_takes uninitialized = omega arith
initialized_takes (initialized d) = omega (arith, initial_takes d)

declared_names_take : {ts rest : List Tok} {xs : List Identifier} → IsListed IsName ts xs rest → 2 * length xs + length rest ≤ 1 + length ts
declared_names_take (listed d e) = omega (arith, name_takes d, next_names_take e)

declaration_takes : {ts rest : List Tok} {x : Declaration} → IsDeclaration ts x rest → declaration_length x + length rest ≤ length ts
declaration_takes (declaration d e f) = omega (arith, declared_names_take d, specification_takes e, initialized_takes f)

declarations_take : {ts rest : List Tok} {xs : List Declaration} → IsMany IsDeclaration ts xs rest → total (map declaration_length xs) + length rest ≤ length ts
declarations_take none = omega arith
declarations_take (more d e) = omega (arith, declaration_takes d, declarations_take e)

retention_takes : {x y : VarKind} {ts rest : List Tok} → IsRetention x ts y rest → length rest ≤ length ts
retention_takes unsaid = omega arith
retention_takes retained = omega arith
retention_takes not_retained = omega arith

internal_takes : {x : VarKind} {ts rest : List Tok} → IsInternal ts x rest → length rest ≤ length ts
internal_takes (variable d) = retention_takes d
internal_takes constant = omega arith

block_takes : {ts rest : List Tok} {x : VarBlock} → IsVarBlock ts x rest → block_length x + length rest ≤ length ts
block_takes (internal d e) = omega (arith, internal_takes d, declarations_take e)
block_takes (input d e) = omega (arith, retention_takes d, declarations_take e)
block_takes (output d e) = omega (arith, retention_takes d, declarations_take e)

blocks_take : {ts rest : List Tok} {xs : List VarBlock} → IsMany IsVarBlock ts xs rest → variables_length xs + length rest ≤ length ts
blocks_take none = omega arith
blocks_take (more d e) = omega (arith, block_takes d, blocks_take e)

-- ---- units

member_takes : {ts rest : List Tok} {x : Declaration} → IsMember ts x rest → length rest ≤ length ts
member_takes (member d e) = omega (arith, specification_takes d, initialized_takes e)

members_take : {ts rest : List Tok} {xs : List Declaration} → IsMany IsMember ts xs rest → length rest ≤ length ts
members_take none = omega arith
members_take (more d e) = omega (arith, member_takes d, members_take e)

declared_takes : {ts rest : List Tok} {x : DeclaredType} → IsDeclared ts x rest → length rest ≤ length ts
declared_takes (derived d e) = omega (arith, specification_takes d, initialized_takes e)
declared_takes (structure d e) = omega (arith, member_takes d, members_take e)

type_declaration_takes : {ts rest : List Tok} {x : TypeDeclaration} → IsTypeDeclaration ts x rest → 1 + length rest ≤ length ts
type_declaration_takes (type_declaration d) = omega (arith, declared_takes d)

type_declarations_take : {ts rest : List Tok} {xs : List TypeDeclaration} → IsMany IsTypeDeclaration ts xs rest → length xs + length rest ≤ length ts
type_declarations_take none = omega arith
type_declarations_take (more d e) = omega (arith, type_declaration_takes d, type_declarations_take e)

body_takes : {ts rest : List Tok} {x : Body} → IsBody ts x rest → body_length x + length rest ≤ length ts
body_takes (plain_body d) = statements_take d
body_takes (chart_body d) = chart_takes d

pou_takes : {p : Position} {ts rest : List Tok} {x : Pou} → IsPou p ts x rest → 1 + (variables_length x.variables + body_length x.body) + length rest ≤ length ts
pou_takes (pou d e) = omega (arith, blocks_take d, body_takes e)

unit_takes : {ts rest : List Tok} {x : names.Unit} → IsUnit ts x rest → unit_length x + length rest ≤ length ts
unit_takes (types d) = omega (arith, type_declarations_take d)
unit_takes (function d e) = omega (arith, blocks_take d, statements_take e)
unit_takes (function_block d) = omega (arith, pou_takes d)
unit_takes (program d) = omega (arith, pou_takes d)

-- the tokens of a text of these units
pub units_take : {ts rest : List Tok} {xs : List names.Unit} → IsMany IsUnit ts xs rest → text_length xs + length rest ≤ length ts
units_take none = omega arith
units_take (more d e) = omega (arith, unit_takes d, units_take e)
