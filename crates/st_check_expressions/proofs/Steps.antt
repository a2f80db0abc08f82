-- The walk, node by node: what was offered of its parts is what the rules say of it.
use Rattle.std.proofs.Common.{rules, ◌≡◌, ℕ, List, [], ◌∷◌, ◌++◌, Option, Some, None, Bool, true, false, ◌&&◌, ◌||◌, not, length, refl, ap, sym, ◌∙◌, if◌then◌else◌}
use Rattle.std.proofs.lemmas.List.{append-nil, length-map}
use Rattle.std.specs.List.{list_any}
use Rattle.std.specs.Option.{is_some}
use Rattle.st_values.specs.Words.{is_word}
use Rattle.st_values.specs.declared.elem.Elem.{Elem}
use Rattle.st_values.specs.declared.elem.Elem.TheVariants as elems
use Rattle.st_tree.specs.declared.tree.expression.Argument.{Argument}
use Rattle.st_tree.specs.declared.tree.expression.Call.{Call}
use Rattle.st_tree.specs.declared.tree.expression.Expression.{Expression}
use Rattle.st_tree.specs.declared.tree.expression.Expression.TheVariants as expressions
use Rattle.st_tree.specs.declared.tree.expression.Expression as the_expression
use Rattle.st_tree.specs.declared.tree.expression.Operation.{Operation}
use Rattle.st_tree.specs.declared.tree.expression.Part.{Part}
use Rattle.st_tree.specs.declared.tree.expression.Part.TheVariants as part_kinds
use Rattle.st_tree.specs.declared.tree.expression.Part as the_part
use Rattle.st_tree.specs.declared.tree.expression.Variable.{Variable}
use Rattle.st_tree.specs.declared.tree.position.Position.{Position}
use Rattle.st_faults.specs.Faults.{First, fault, offer_all, when}
use Rattle.st_faults.specs.declared.fault.Fault.{Fault}
use Rattle.st_faults.specs.declared.fault.Rule.{Rule}
use Rattle.st_faults.specs.declared.fault.Rule.TheVariants as broken_rules
use Rattle.st_operators.specs.Operators.{is_boolean}
use Rattle.st_types.specs.OwnTypes.{compared_type, compares}
use Rattle.st_types.specs.Scopes.{Scope, elem_due}
use Rattle.st_types.specs.Types.{Shape}
use Rattle.st_types.specs.declared.symbol.Callee.{Callee}
use Rattle.st_types.specs.declared.symbol.Due.{Due}
use Rattle.st_types.specs.declared.symbol.Due.TheVariants as dues
use Rattle.st_check_expressions.specs.Calls.{ArgumentKnown, CallKnown, arguments_faults, broken, call_faults, called, gives_due, is_faulty, value_of_call}
use Rattle.st_check_expressions.specs.Inside.{chain_type, complements_due, count_faults, due_elem, fits_chain, further_type, is_kept, meets, negates_due, operands_from, shape_misfit, whole_faults}
use Rattle.st_check_expressions.specs.Known.{Known, OperandKnown, all_combine, all_compare, arithmetic_faults, chain, compared_at, comparison_faults, complemented, faults_as, faults_due, faults_here, negated, operands_at, operands_open, operators_of, owns_of}
use Rattle.st_check_expressions.specs.Nodes.{operators_in, position_of, rule_of}
use Rattle.st_check_expressions.specs.Variables.{VariableKnown, is_fixed, part_faults, subscripts, subscripts_faults, target_faults, value_of, variable_of}
use Rattle.st_check_expressions.specs.Walk.{known, known_arguments, known_call, known_expressions, known_operations, known_part, known_parts, known_variable}
use Rattle.st_check_expressions.specs.declared.route.Route.{Route}
use Rattle.st_check_expressions.proofs.Folds.{call_known, known_call_is, known_chain, known_variable_is}
use Rattle.st_check_expressions.proofs.Nodes.{empty_map, operators_known, position_known, rule_known}
use Rattle.st_faults.proofs.Offers.{both, three}

-- ---- what is due

due_parts : (x : Known) (due : Due) → faults_as x due ≡ (faults_here x (due_elem x due) ++ when (not (meets x due)) (fault x.position broken_rules.TypeMismatch))
due_parts x dues.Any = sym (append-nil (faults_here x x.own))
due_parts x (dues.Type e) = sym (append-nil (x.faults_at x.position e))
due_parts x dues.Integer = refl
due_parts x dues.NoValue = refl

pub due_done : (scope : Scope) (x : Expression) (due : Due) (position : Position) (e : Option Elem) (fits : Bool) (o o1 o2 : First)
    → position ≡ position_of x → e ≡ due_elem (known scope x) due → o1 ≡ offer_all o (faults_due (known scope x) position e) → fits ≡ meets (known scope x) due
    → o2 ≡ offer_all o1 (when (not fits) (fault position broken_rules.TypeMismatch)) → o2 ≡ offer_all o (faults_as (known scope x) due)
due_done scope x due position e fits o o1 o2 begins taken a met c =
    both o o1 o2 _ _ a c
    ∙ ap (λ b. offer_all o (faults_due (known scope x) position e ++ when (not b) (fault position broken_rules.TypeMismatch))) met
    ∙ ap (λ t. offer_all o (faults_due (known scope x) position t ++ when (not (meets (known scope x) due)) (fault position broken_rules.TypeMismatch))) taken
    ∙ ap (λ p. offer_all o (faults_due (known scope x) p (due_elem (known scope x) due) ++ when (not (meets (known scope x) due)) (fault p broken_rules.TypeMismatch))) (begins ∙ sym (position_known scope x))
    ∙ sym (ap (offer_all o) (due_parts (known scope x) due))

pub here_done : (scope : Scope) (x : Expression) (due : Option Elem) (position : Position) (o o1 : First)
    → position ≡ position_of x → o1 ≡ offer_all o (faults_due (known scope x) position due) → o1 ≡ offer_all o (faults_here (known scope x) due)
here_done scope x due position o o1 begins a = a ∙ ap (λ p. offer_all o (faults_due (known scope x) p due)) (begins ∙ sym (position_known scope x))

-- ---- variables

known_variable_at : (scope : Scope) (v : Variable) → known scope (expressions.Variable v) ≡ value_of (known_variable scope v)
known_variable_at scope v = search (rules, the_expression.the_lemmas)

value_parts : (v : VariableKnown) (at : Position) (t : Option Elem) → faults_due (value_of v) at t ≡ v.faults ++ shape_misfit v.reached.shape at t
value_parts v at None = refl
value_parts v at (Some e) = refl

pub variable_done : (scope : Scope) (e : Expression) (v : Variable) (w : Route) (at : Position) (t : Option Elem) (o o1 o2 : First)
    → e ≡ expressions.Variable v → w ≡ VariableKnown.reached (known_variable scope v)
    → o1 ≡ offer_all o (VariableKnown.faults (known_variable scope v)) → o2 ≡ offer_all o1 (shape_misfit w.shape at t)
    → o2 ≡ offer_all o (faults_due (known scope e) at t)
variable_done scope e v w at t o o1 o2 is reached a b =
    both o o1 o2 _ _ a b
    ∙ ap (λ r. offer_all o (VariableKnown.faults (known_variable scope v) ++ shape_misfit (Route.shape r) at t)) reached
    ∙ sym (ap (λ z. offer_all o (faults_due (known scope z) at t)) is ∙ ap (λ k. offer_all o (faults_due k at t)) (known_variable_at scope v)
    ∙ ap (offer_all o) (value_parts (known_variable scope v) at t))

known_subscripts : (scope : Scope) (position : Position) (xs : List Expression) → known_part scope (part_kinds.Subscripts position xs) ≡ subscripts position (known_expressions scope xs)
known_subscripts scope position xs = search (rules, the_part.the_lemmas)

pub subscripts_done : (scope : Scope) (part : Part) (w : Route) (position : Position) (xs ys : List Expression) (n : ℕ) (o o1 o2 : First)
    → part ≡ part_kinds.Subscripts position xs → n ≡ length xs → ys ≡ xs
    → o1 ≡ offer_all o (count_faults scope w.shape position n)
    → o2 ≡ offer_all o1 (subscripts_faults (known_expressions scope ys)) → o2 ≡ offer_all o (part_faults scope w (known_part scope part))
subscripts_done scope part w position xs ys n o o1 o2 is count same a b =
    both o o1 o2 _ _ a b
    ∙ ap (λ m. offer_all o (count_faults scope w.shape position m ++ subscripts_faults (known_expressions scope ys))) (count ∙ sym (length-map xs (known scope)))
    ∙ ap (λ zs. offer_all o (count_faults scope w.shape position (length (known_expressions scope xs)) ++ subscripts_faults (known_expressions scope zs))) same
    ∙ sym (ap (λ k. offer_all o (part_faults scope w k)) (ap (known_part scope) is ∙ known_subscripts scope position xs))

-- what is known of a variable, from its name and parts
abbrev from_parts : Scope → Variable → VariableKnown
from_parts scope v = variable_of scope v.name (known_parts scope v.parts)

abbrev target_parts : Variable → List Fault → Shape → Bool → List Fault
target_parts v faults s kept = faults ++ whole_faults s v.name.position ++ when kept (fault v.name.position broken_rules.NotAssignable)

-- it takes no value, where it stands as a whole or not
abbrev kept_by : Scope → List (List ℕ) → Variable → Bool → Bool → Bool
kept_by scope counters v through whole = is_fixed (scope.variable v.name.spelling) || through || (whole && list_any (is_word v.name.spelling) counters)

pub target_done : (scope : Scope) (counters : List (List ℕ)) (v : Variable) (w : Route) (kept : Bool) (o o1 o2 o3 : First)
    → w ≡ VariableKnown.reached (known_variable scope v) → o1 ≡ offer_all o (VariableKnown.faults (known_variable scope v))
    → o2 ≡ offer_all o1 (whole_faults w.shape v.name.position) → kept ≡ is_kept scope counters v w
    → o3 ≡ offer_all o2 (when kept (fault v.name.position broken_rules.NotAssignable)) → o3 ≡ offer_all o (target_faults counters (known_variable scope v))
target_done scope counters v w kept o o1 o2 o3 reached a b keeps c =
    three o o1 o2 o3 _ _ _ a b c
    ∙ ap (λ k. offer_all o (target_parts v (VariableKnown.faults (known_variable scope v)) w.shape k)) keeps
    ∙ ap (λ r. offer_all o (target_parts v (VariableKnown.faults (known_variable scope v)) (Route.shape r) (is_kept scope counters v r))) reached
    ∙ ap (λ k. offer_all o (target_parts v (VariableKnown.faults k) (VariableKnown.reached k).shape (is_kept scope counters v (VariableKnown.reached k)))) (known_variable_is scope v)
    ∙ ap (λ whole. offer_all o (target_parts v (VariableKnown.faults (from_parts scope v)) (VariableKnown.reached (from_parts scope v)).shape (kept_by scope counters v (VariableKnown.reached (from_parts scope v)).through whole)))
    (sym (empty_map (known_part scope) v.parts))
    ∙ sym (ap (λ k. offer_all o (target_faults counters k)) (known_variable_is scope v))

-- ---- operators

known_negate : (scope : Scope) (position : Position) (x : Expression) → known scope (expressions.Negate position x) ≡ negated position (known scope x)
known_negate scope position x = search (rules, the_expression.the_lemmas)

known_not : (scope : Scope) (position : Position) (x : Expression) → known scope (expressions.Not position x) ≡ complemented position (known scope x)
known_not scope position x = search (rules, the_expression.the_lemmas)

negate_parts : (position : Position) (x : Known) (at : Position) (t : Option Elem)
    → faults_due (negated position x) at t ≡ faults_here x t ++ when (not (negates_due t)) (fault at broken_rules.TypeMismatch)
negate_parts position x at None = sym (append-nil (x.faults_open x.position))
negate_parts position x at (Some e) = refl

not_parts : (position : Position) (x : Known) (at : Position) (t : Option Elem)
    → faults_due (complemented position x) at t ≡ faults_here x t ++ when (not (complements_due t)) (fault at broken_rules.TypeMismatch)
not_parts position x at None = sym (append-nil (x.faults_open x.position))
not_parts position x at (Some e) = refl

pub negate_done : (scope : Scope) (e x y : Expression) (position at : Position) (t : Option Elem) (b : Bool) (o o1 o2 : First)
    → e ≡ expressions.Negate position x → y ≡ x → o1 ≡ offer_all o (faults_here (known scope y) t) → b ≡ negates_due t
    → o2 ≡ offer_all o1 (when (not b) (fault at broken_rules.TypeMismatch)) → o2 ≡ offer_all o (faults_due (known scope e) at t)
negate_done scope e x y position at t b o o1 o2 is same a takes c =
    both o o1 o2 _ _ a c
    ∙ ap (λ d. offer_all o (faults_here (known scope y) t ++ when (not d) (fault at broken_rules.TypeMismatch))) takes
    ∙ ap (λ z. offer_all o (faults_here (known scope z) t ++ when (not (negates_due t)) (fault at broken_rules.TypeMismatch))) same
    ∙ sym (ap (λ z. offer_all o (faults_due (known scope z) at t)) is ∙ ap (λ k. offer_all o (faults_due k at t)) (known_negate scope position x)
    ∙ ap (offer_all o) (negate_parts position (known scope x) at t))

pub not_done : (scope : Scope) (e x y : Expression) (position at : Position) (t : Option Elem) (b : Bool) (o o1 o2 : First)
    → e ≡ expressions.Not position x → y ≡ x → o1 ≡ offer_all o (faults_here (known scope y) t) → b ≡ complements_due t
    → o2 ≡ offer_all o1 (when (not b) (fault at broken_rules.TypeMismatch)) → o2 ≡ offer_all o (faults_due (known scope e) at t)
not_done scope e x y position at t b o o1 o2 is same a takes c =
    both o o1 o2 _ _ a c
    ∙ ap (λ d. offer_all o (faults_here (known scope y) t ++ when (not d) (fault at broken_rules.TypeMismatch))) takes
    ∙ ap (λ z. offer_all o (faults_here (known scope z) t ++ when (not (complements_due t)) (fault at broken_rules.TypeMismatch))) same
    ∙ sym (ap (λ z. offer_all o (faults_due (known scope z) at t)) is ∙ ap (λ k. offer_all o (faults_due k at t)) (known_not scope position x)
    ∙ ap (offer_all o) (not_parts position (known scope x) at t))

compared_from : (ls : List OperandKnown) (e : Elem) → compared_at ls e ≡ operands_from ls (Some e) (Some elems.Bool)
compared_from [] e = refl
compared_from (l ∷ ls) e = ap (λ fs. l.operand.faults_at l.operand.position e ++ fs) (compared_from ls elems.Bool)

operands_alike : (ls : List OperandKnown) (e : Elem) → operands_at ls e ≡ operands_from ls (Some e) (Some e)
operands_alike [] e = refl
operands_alike (l ∷ ls) e = ap (λ fs. l.operand.faults_at l.operand.position e ++ fs) (operands_alike ls e)

operands_open_alike : (ls : List OperandKnown) → operands_open ls ≡ operands_from ls None None
operands_open_alike [] = refl
operands_open_alike (l ∷ ls) = ap (λ fs. l.operand.faults_open l.operand.position ++ fs) (operands_open_alike ls)

abbrev chain_parts : Known → List OperandKnown → Position → Option Elem → Option Elem → Bool → List Fault
chain_parts x ls at w further b = faults_here x w ++ operands_from ls w further ++ when (not b) (fault at broken_rules.TypeMismatch)

-- the two kinds of chains as one
chain_alike : (x : Known) (ls : List OperandKnown) (at : Position) (e c : Elem) (b : Bool)
    → (if b then comparison_faults c x ls at e else arithmetic_faults x ls at e)
    ≡ chain_parts x ls at (if b then Some c else Some e) (if b then Some elems.Bool else (if b then Some c else Some e))
    (if b then is_boolean e && all_compare (operators_of ls) else all_combine (operators_of ls) e)
chain_alike x ls at e c true = ap (λ fs. x.faults_at x.position c ++ fs ++ when (not (is_boolean e && all_compare (operators_of ls))) (fault at broken_rules.TypeMismatch)) (compared_from ls c)
chain_alike x ls at e c false = ap (λ fs. x.faults_at x.position e ++ fs ++ when (not (all_combine (operators_of ls) e)) (fault at broken_rules.TypeMismatch)) (operands_alike ls e)

chain_open : (x : Known) (ls : List OperandKnown) (at : Position) (c : Elem) (b : Bool)
    → (if b then comparison_faults c x ls at elems.Bool else (x.faults_open x.position ++ operands_open ls))
    ≡ chain_parts x ls at (if b then Some c else None) (if b then Some elems.Bool else (if b then Some c else None)) (if b then all_compare (operators_of ls) else true)
chain_open x ls at c true = ap (λ fs. x.faults_at x.position c ++ fs ++ when (not (all_compare (operators_of ls))) (fault at broken_rules.TypeMismatch)) (compared_from ls c)
chain_open x ls at c false = ap (λ fs. x.faults_open x.position ++ fs) (operands_open_alike ls) ∙ sym (append-nil (x.faults_open x.position ++ operands_from ls None None))

chain_is : (position : Position) (x : Known) (ls : List OperandKnown) (at : Position) (e : Option Elem)
    → faults_due (chain position x ls) at e ≡ chain_parts x ls at (chain_type x ls e) (further_type (operators_of ls) (chain_type x ls e)) (fits_chain (operators_of ls) e)
chain_is position x ls at None = chain_open x ls at (compared_type x.own (owns_of ls)) (compares (operators_of ls))
chain_is position x ls at (Some e) = chain_alike x ls at e (compared_type x.own (owns_of ls)) (compares (operators_of ls))

-- as they are found: the type of the operands, that of the further ones, and whether the operators fit
abbrev chain_found : Scope → Expression → List Operation → Position → Option Elem → Option Elem → List Fault
chain_found scope x ls at t w =
    chain_parts (known scope x) (known_operations scope ls) at w (further_type (operators_of (known_operations scope ls)) w) (fits_chain (operators_of (known_operations scope ls)) t)

pub chain_done : (scope : Scope) (e x y z : Expression) (ls ms : List Operation) (position at : Position) (t w further : Option Elem) (b : Bool) (o o1 o2 o3 : First)
    → e ≡ expressions.Chain position x ls → y ≡ x → z ≡ x → ms ≡ ls → w ≡ chain_type (known scope y) (known_operations scope ms) t → further ≡ further_type (operators_in ms) w
    → o1 ≡ offer_all o (faults_here (known scope z) w) → o2 ≡ offer_all o1 (operands_from (known_operations scope ms) w further)
    → b ≡ fits_chain (operators_in ms) t → o3 ≡ offer_all o2 (when (not b) (fault at broken_rules.TypeMismatch))
    → o3 ≡ offer_all o (faults_due (known scope e) at t)
chain_done scope e x y z ls ms position at t w further b o o1 o2 o3 is same again others taken onward a c fits d =
    three o o1 o2 o3 _ _ _ a c d
    ∙ ap (λ v. offer_all o (chain_parts (known scope v) (known_operations scope ms) at w further b)) again
    ∙ ap (λ k. offer_all o (chain_parts (known scope x) (known_operations scope ms) at w further k)) (fits ∙ sym (ap (λ os. fits_chain os t) (operators_known scope ms)))
    ∙ ap (λ k. offer_all o (chain_parts (known scope x) (known_operations scope ms) at w k (fits_chain (operators_of (known_operations scope ms)) t))) (onward ∙ sym (ap (λ os. further_type os w) (operators_known scope ms)))
    ∙ ap (λ k. offer_all o (chain_found scope x ms at t k)) taken
    ∙ ap (λ v. offer_all o (chain_found scope x ms at t (chain_type (known scope v) (known_operations scope ms) t))) same
    ∙ ap (λ ns. offer_all o (chain_found scope x ns at t (chain_type (known scope x) (known_operations scope ns) t))) others
    ∙ sym (ap (λ v. offer_all o (faults_due (known scope v) at t)) is ∙ ap (λ k. offer_all o (faults_due k at t)) (known_chain scope position x ls)
    ∙ ap (offer_all o) (chain_is position (known scope x) (known_operations scope ls) at t))

-- ---- calls

abbrev call_parts : Position → Callee → List ArgumentKnown → Position → Option Elem → Option Rule → Bool → List Fault
call_parts position callee arguments at t rule fits =
    broken position rule ++ arguments_faults callee (elem_due t) 0 arguments ++ when (not fits) (fault at broken_rules.TypeMismatch)

abbrev fits_by : Callee → Option Elem → Option Rule → Bool
fits_by callee t rule = is_some rule || is_faulty callee || gives_due callee t

called_parts : (callee : Callee) (c : CallKnown) (at : Position) (t : Option Elem) → faults_due (called callee c) at t ≡ call_faults callee c at t
called_parts callee c at None = refl
called_parts callee c at (Some e) = refl

pub call_done : (scope : Scope) (c : Call) (spelling : List ℕ) (callee : Callee) (arguments : List Argument) (rule : Option Rule) (fits : Bool) (at : Position) (t : Option Elem) (o o1 o2 o3 : First)
    → spelling ≡ c.name.spelling → callee ≡ scope.callee spelling → arguments ≡ c.arguments → rule ≡ rule_of callee arguments
    → o1 ≡ offer_all o (broken c.name.position rule) → o2 ≡ offer_all o1 (arguments_faults callee (elem_due t) 0 (known_arguments scope arguments))
    → fits ≡ fits_by callee t rule → o3 ≡ offer_all o2 (when (not fits) (fault at broken_rules.TypeMismatch))
    → o3 ≡ offer_all o (faults_due (value_of_call scope (known_call scope c)) at t)
call_done scope c spelling callee arguments rule fits at t o o1 o2 o3 spelled called same breaks a b fit d =
    three o o1 o2 o3 _ _ _ a b d
    ∙ ap (λ f. offer_all o (call_parts c.name.position callee (known_arguments scope arguments) at t rule f)) fit
    ∙ ap (λ r. offer_all o (call_parts c.name.position callee (known_arguments scope arguments) at t r (fits_by callee t r))) (breaks ∙ sym (rule_known scope callee arguments))
    ∙ ap (λ xs. offer_all o (call_faults callee (call_known c.name (known_arguments scope xs)) at t)) same
    ∙ ap (λ k. offer_all o (call_faults k (call_known c.name (known_arguments scope c.arguments)) at t)) (called ∙ ap scope.callee spelled)
    ∙ sym (ap (λ k. offer_all o (faults_due (value_of_call scope k) at t)) (known_call_is scope c)
    ∙ ap (offer_all o) (called_parts (scope.callee c.name.spelling) (call_known c.name (known_arguments scope c.arguments)) at t))
