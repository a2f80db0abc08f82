-- What is known of a node, from what is known of its parts.
use Rattle.std.proofs.Common.{rules, ◌≡◌, ℕ, ◌-◌, List, drop, length, take, ap, sym, ◌∙◌}
use Rattle.std.proofs.Math.Seq.{take-length}
use Rattle.std.proofs.lemmas.List.{drop-map, length-drop}
use Rattle.st_tree.specs.declared.tree.expression.Call.{Call}
use Rattle.st_tree.specs.declared.tree.expression.Call as the_call
use Rattle.st_tree.specs.declared.tree.expression.Expression.{Expression}
use Rattle.st_tree.specs.declared.tree.expression.Expression.TheVariants as expressions
use Rattle.st_tree.specs.declared.tree.expression.Expression as the_expression
use Rattle.st_tree.specs.declared.tree.expression.Operation.{Operation}
use Rattle.st_tree.specs.declared.tree.expression.Part.{Part}
use Rattle.st_tree.specs.declared.tree.expression.Variable.{Variable}
use Rattle.st_tree.specs.declared.tree.expression.Variable as the_variable
use Rattle.st_tree.specs.declared.tree.position.Identifier.{Identifier}
use Rattle.st_tree.specs.declared.tree.position.Position.{Position}
use Rattle.st_types.specs.Scopes.{Scope}
use Rattle.st_check_expressions.specs.Calls.{ArgumentKnown, CallKnown, called, value_of_call}
use Rattle.st_check_expressions.specs.Inside.{start_at}
use Rattle.st_check_expressions.specs.Known.{chain}
use Rattle.st_check_expressions.specs.Variables.{VariableKnown, select_all, variable_of}
use Rattle.st_check_expressions.specs.Walk.{known, known_arguments, known_call, known_operations, known_part, known_parts, known_variable}
use Rattle.st_check_expressions.specs.declared.route.Route.{Route}
use Rattle.st_check_expressions.specs.declared.route.Start.{Start}

-- ---- chains

pub known_chain : (scope : Scope) (position : Position) (x : Expression) (ls : List Operation)
    → known scope (expressions.Chain position x ls) ≡ chain position (known scope x) (known_operations scope ls)
known_chain scope position x ls = search (rules, the_expression.the_lemmas)

-- ---- variables

pub known_variable_is : (scope : Scope) (v : Variable) → known_variable scope v ≡ variable_of scope v.name (known_parts scope v.parts)
known_variable_is scope v = search (rules, the_variable.the_lemmas)

reached_variable : (scope : Scope) (v : Variable)
    → VariableKnown.reached (known_variable scope v) ≡ select_all scope (start_at scope v).route (known_parts scope (drop (start_at scope v).taken v.parts))
reached_variable scope v =
    ap VariableKnown.reached (known_variable_is scope v)
    ∙ ap (select_all scope (start_at scope v).route) (drop-map (known_part scope) (start_at scope v).taken v.parts)

whole_rest : {A : Type 0} (i : ℕ) (xs : List A) → take (length xs - i) (drop i xs) ≡ drop i xs
whole_rest i xs = ap (λ n. take n (drop i xs)) (sym (length-drop i xs)) ∙ take-length (drop i xs)

-- what the way through its parts reaches
pub reached_done : (scope : Scope) (v : Variable) (s : Start) (parts : List Part) (w : Route)
    → s ≡ start_at scope v → parts ≡ v.parts → w ≡ select_all scope s.route (known_parts scope (take (length parts - s.taken) (drop s.taken parts))) → w ≡ VariableKnown.reached (known_variable scope v)
reached_done scope v s parts w begins same ends =
    ends ∙ ap (λ ps. select_all scope s.route (known_parts scope ps)) (whole_rest s.taken parts)
    ∙ ap (λ r. select_all scope r.route (known_parts scope (drop r.taken parts))) begins
    ∙ ap (λ ps. select_all scope (start_at scope v).route (known_parts scope (drop (start_at scope v).taken ps))) same ∙ sym (reached_variable scope v)

-- ---- calls

abbrev pub call_known : Identifier → List ArgumentKnown → CallKnown
call_known name arguments = record { name = name; arguments = arguments }

known_call_at : (scope : Scope) (c : Call) → known scope (expressions.Call c) ≡ value_of_call scope (known_call scope c)
known_call_at scope c = search (rules, the_expression.the_lemmas)

pub known_call_is : (scope : Scope) (c : Call) → known_call scope c ≡ call_known c.name (known_arguments scope c.arguments)
known_call_is scope c = search (rules, the_call.the_lemmas)

pub call_is : (scope : Scope) (c : Call) → known scope (expressions.Call c) ≡ called (scope.callee c.name.spelling) (call_known c.name (known_arguments scope c.arguments))
call_is scope c = known_call_at scope c ∙ ap (value_of_call scope) (known_call_is scope c)
