-- What is known of a node, and what it shows by itself.
use Rattle.std.proofs.Common.{rules, ◌≡◌, List, [], ◌∷◌, ◌++◌, length, map, refl, ap, ◌∙◌}
use Rattle.std.proofs.lemmas.List.{length-map}
use Rattle.st_tree.specs.declared.tree.expression.Argument.TheOpen.{Argument-F, Expression-F}
use Rattle.st_tree.specs.declared.tree.expression.Argument.{Argument, fold_out-Argument, map-Argument, out-Argument}
use Rattle.st_tree.specs.declared.tree.expression.Argument as the_argument
use Rattle.st_tree.specs.declared.tree.expression.Call.{Call}
use Rattle.st_tree.specs.declared.tree.expression.Expression.{Expression, fold_out-Expression, map-Expression, out-Expression}
use Rattle.st_tree.specs.declared.tree.expression.Expression as the_expression
use Rattle.st_tree.specs.declared.tree.expression.Operation.{Operation}
use Rattle.st_tree.specs.declared.tree.expression.Operation as the_operation
use Rattle.st_tree.specs.declared.tree.expression.Part.{Part}
use Rattle.st_tree.specs.declared.tree.expression.Variable.{Variable}
use Rattle.st_tree.specs.declared.tree.position.Identifier.{Identifier}
use Rattle.st_types.specs.Scopes.{Scope}
use Rattle.st_types.specs.declared.symbol.Callee.{Callee}
use Rattle.st_check_expressions.specs.Calls.{ArgumentKnown, CallKnown, call_rule, input_in, inputs, output_in, outputs, positional_in, positionals, rule_by}
use Rattle.st_check_expressions.specs.Known.{Known, OperandKnown, is_empty, operators_of}
use Rattle.st_check_expressions.specs.Nodes.{begins_at, input_at, input_of, inputs_of, operators_in, output_at, output_of, outputs_of, position_of, positional_at, positional_of, positionals_of, rule_of}
use Rattle.st_check_expressions.specs.Variables.{VariableKnown}
use Rattle.st_check_expressions.specs.Walk.{argument_step, expression_step, known, known_argument, known_arguments, known_call, known_expressions, known_operation, known_operations, known_part, known_variable}
use Rattle.st_check_expressions.proofs.Folds.{known_call_is, known_variable_is}

-- ---- where an expression begins

-- what is known of a node, whose parts are expressions, variables and calls
abbrev expression_made : Scope → Expression-F Argument Expression Part Call Operation Variable → Known
expression_made scope w =
    expression_step scope (map-Expression _ _ _ _ _ _ _ _ _ _ _ _ (known_argument scope) (known scope) (known_part scope) (known_call scope) (known_operation scope) (known_variable scope) w)

position_made : (scope : Scope) (w : Expression-F Argument Expression Part Call Operation Variable) → Known.position (expression_made scope w) ≡ begins_at w
position_made scope (Expression-F.Constant c) = search (rules, the_expression.the_lemmas)
position_made scope (Expression-F.Variable v) = ap (λ k. Identifier.position (VariableKnown.name k)) (known_variable_is scope v)
position_made scope (Expression-F.Call c) = ap (λ k. Identifier.position (CallKnown.name k)) (known_call_is scope c)
position_made scope (Expression-F.Parenthesized position x) = search (rules, the_expression.the_lemmas)
position_made scope (Expression-F.Negate position x) = search (rules, the_expression.the_lemmas)
position_made scope (Expression-F.Not position x) = search (rules, the_expression.the_lemmas)
position_made scope (Expression-F.Chain position x ls) = search (rules, the_expression.the_lemmas)

pub position_known : (scope : Scope) (x : Expression) → Known.position (known scope x) ≡ position_of x
position_known scope x = ap Known.position (fold_out-Expression _ _ _ _ _ _ _ _ _ _ _ _ x) ∙ position_made scope (out-Expression x)

-- ---- operators

operator_known : (scope : Scope) (o : Operation) → OperandKnown.operator (known_operation scope o) ≡ o.operator
operator_known scope o = search (rules, the_operation.the_lemmas)

pub operators_known : (scope : Scope) (ls : List Operation) → operators_of (known_operations scope ls) ≡ operators_in ls
operators_known scope [] = refl
operators_known scope (l ∷ ls) = ap (λ o. o ∷ operators_of (known_operations scope ls)) (operator_known scope l) ∙ ap (λ os. l.operator ∷ os) (operators_known scope ls)

-- ---- arguments

-- what is known of an argument, whose part is an expression or a variable
abbrev argument_made : Scope → Argument-F Argument Expression Part Call Operation Variable → ArgumentKnown
argument_made scope w =
    argument_step (map-Argument _ _ _ _ _ _ _ _ _ _ _ _ (known_argument scope) (known scope) (known_part scope) (known_call scope) (known_operation scope) (known_variable scope) w)

argument_is : (scope : Scope) (a : Argument) → known_argument scope a ≡ argument_made scope (out-Argument a)
argument_is scope a = fold_out-Argument _ _ _ _ _ _ _ _ _ _ _ _ a

positional_made : (scope : Scope) (w : Argument-F Argument Expression Part Call Operation Variable) → positional_in (argument_made scope w) ≡ map (known scope) (positional_at w)
positional_made scope (Argument-F.Positional x) = search (rules, the_argument.the_lemmas)
positional_made scope (Argument-F.Input name x) = search (rules, the_argument.the_lemmas)
positional_made scope (Argument-F.Output name v) = search (rules, the_argument.the_lemmas)

input_made : (scope : Scope) (w : Argument-F Argument Expression Part Call Operation Variable) → input_in (argument_made scope w) ≡ input_at w
input_made scope (Argument-F.Positional x) = search (rules, the_argument.the_lemmas)
input_made scope (Argument-F.Input name x) = search (rules, the_argument.the_lemmas)
input_made scope (Argument-F.Output name v) = search (rules, the_argument.the_lemmas)

output_made : (scope : Scope) (w : Argument-F Argument Expression Part Call Operation Variable) → output_in (argument_made scope w) ≡ output_at w
output_made scope (Argument-F.Positional x) = search (rules, the_argument.the_lemmas)
output_made scope (Argument-F.Input name x) = search (rules, the_argument.the_lemmas)
output_made scope (Argument-F.Output name v) = search (rules, the_argument.the_lemmas)

positional_known : (scope : Scope) (a : Argument) → positional_in (known_argument scope a) ≡ map (known scope) (positional_of a)
positional_known scope a = ap positional_in (argument_is scope a) ∙ positional_made scope (out-Argument a)

input_known : (scope : Scope) (a : Argument) → input_in (known_argument scope a) ≡ input_of a
input_known scope a = ap input_in (argument_is scope a) ∙ input_made scope (out-Argument a)

output_known : (scope : Scope) (a : Argument) → output_in (known_argument scope a) ≡ output_of a
output_known scope a = ap output_in (argument_is scope a) ∙ output_made scope (out-Argument a)

pub empty_map : {A B : Type 0} (f : A → B) (xs : List A) → is_empty (map f xs) ≡ is_empty xs
empty_map f [] = refl
empty_map f (x ∷ xs) = refl

map_append : {A B : Type 0} (f : A → B) (xs ys : List A) → map f xs ++ map f ys ≡ map f (xs ++ ys)
map_append f [] ys = refl
map_append f (x ∷ xs) ys = ap (λ zs. f x ∷ zs) (map_append f xs ys)

pub positionals_known : (scope : Scope) (xs : List Argument) → positionals (known_arguments scope xs) ≡ known_expressions scope (positionals_of xs)
positionals_known scope [] = refl
positionals_known scope (x ∷ xs) =
    ap (λ ys. ys ++ positionals (known_arguments scope xs)) (positional_known scope x) ∙ ap (λ ys. map (known scope) (positional_of x) ++ ys) (positionals_known scope xs)
    ∙ map_append (known scope) (positional_of x) (positionals_of xs)

pub inputs_known : (scope : Scope) (xs : List Argument) → inputs (known_arguments scope xs) ≡ inputs_of xs
inputs_known scope [] = refl
inputs_known scope (x ∷ xs) = ap (λ ys. ys ++ inputs (known_arguments scope xs)) (input_known scope x) ∙ ap (λ ys. input_of x ++ ys) (inputs_known scope xs)

pub outputs_known : (scope : Scope) (xs : List Argument) → outputs (known_arguments scope xs) ≡ outputs_of xs
outputs_known scope [] = refl
outputs_known scope (x ∷ xs) = ap (λ ys. ys ++ outputs (known_arguments scope xs)) (output_known scope x) ∙ ap (λ ys. output_of x ++ ys) (outputs_known scope xs)

pub rule_known : (scope : Scope) (callee : Callee) (xs : List Argument) → call_rule callee (known_arguments scope xs) ≡ rule_of callee xs
rule_known scope callee xs =
    ap (λ ys. rule_by callee (length ys) (inputs (known_arguments scope xs)) (outputs (known_arguments scope xs))) (positionals_known scope xs)
    ∙ ap (λ n. rule_by callee n (inputs (known_arguments scope xs)) (outputs (known_arguments scope xs))) (length-map (positionals_of xs) (known scope))
    ∙ ap (λ names. rule_by callee (length (positionals_of xs)) names (outputs (known_arguments scope xs))) (inputs_known scope xs)
    ∙ ap (λ names. rule_by callee (length (positionals_of xs)) (inputs_of xs) names) (outputs_known scope xs)
