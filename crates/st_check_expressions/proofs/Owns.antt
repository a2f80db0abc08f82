-- The own types of chains and calls, as they are found.
use Rattle.std.proofs.Common.{◌≡◌, List, [], ◌∷◌, Option, Bool, true, false, ◌&&◌, ◌||◌, if◌then◌else◌, refl, ap, sym, ◌∙◌}
use Rattle.std.specs.Option.{is_some}
use Rattle.std.specs.Prelude.{None, Some}
use Rattle.st_values.specs.declared.elem.Elem.{Elem}
use Rattle.st_values.specs.declared.elem.Elem.TheVariants as elems
use Rattle.st_tree.specs.declared.tree.expression.Call.{Call}
use Rattle.st_tree.specs.declared.tree.expression.Expression.{Expression}
use Rattle.st_tree.specs.declared.tree.expression.Expression.TheVariants as expressions
use Rattle.st_tree.specs.declared.tree.expression.Operation.{Operation}
use Rattle.st_tree.specs.declared.tree.position.Position.{Position}
use Rattle.st_types.specs.OwnTypes.{call_own, chain_own, compares, first_own, only_first, standard_own, types_call, without_first}
use Rattle.st_types.specs.Scopes.{Scope}
use Rattle.st_types.specs.declared.standard.StandardFunction.{StandardFunction}
use Rattle.st_types.specs.declared.standard.StandardFunction.TheVariants as functions
use Rattle.st_check_expressions.specs.Calls.{ArgumentKnown, input, is_faulty, output, owns_in, positional, positional_in}
use Rattle.st_check_expressions.specs.Inside.{argument_own}
use Rattle.st_check_expressions.specs.Known.{Known, is_empty, operators_of, owns_of}
use Rattle.st_check_expressions.specs.Nodes.{operators_in, rule_of}
use Rattle.st_check_expressions.specs.Walk.{known, known_arguments, known_operations}
use Rattle.st_check_expressions.proofs.Folds.{call_is, known_chain}
use Rattle.st_check_expressions.proofs.Nodes.{operators_known, rule_known}

-- ---- chains

own_chain : (scope : Scope) (position : Position) (x : Expression) (ls : List Operation)
    → Known.own (known scope (expressions.Chain position x ls)) ≡ chain_own (operators_of (known_operations scope ls)) (Known.own (known scope x)) (owns_of (known_operations scope ls))
own_chain scope position x ls = ap Known.own (known_chain scope position x ls)

own_by : (scope : Scope) (e x : Expression) (ls : List Operation) (position : Position) (b : Bool)
    → e ≡ expressions.Chain position x ls → compares (operators_of (known_operations scope ls)) ≡ b
    → (if b then Some elems.Bool else first_own (Known.own (known scope x) ∷ owns_of (known_operations scope ls))) ≡ Known.own (known scope e)
own_by scope e x ls position b is c =
    sym (ap (λ y. Known.own (known scope y)) is ∙ own_chain scope position x ls
    ∙ ap (λ d. if d then Some elems.Bool else first_own (Known.own (known scope x) ∷ owns_of (known_operations scope ls))) c)

-- whether a chain compares, as it is found
pub compares_known : (scope : Scope) (ms ls : List Operation) (found b : Bool) → ms ≡ ls → found ≡ compares (operators_in ms) → found ≡ b → compares (operators_of (known_operations scope ls)) ≡ b
compares_known scope ms ls found b same h c = ap compares (operators_known scope ls) ∙ ap (λ ns. compares (operators_in ns)) (sym same) ∙ sym h ∙ c

pub own_compares : (scope : Scope) (e x : Expression) (ls : List Operation) (position : Position)
    → e ≡ expressions.Chain position x ls → compares (operators_of (known_operations scope ls)) ≡ true → Some elems.Bool ≡ Known.own (known scope e)
own_compares scope e x ls position is c = own_by scope e x ls position true is c

pub own_left : (scope : Scope) (e x : Expression) (ls : List Operation) (position : Position) (found : Option Elem)
    → e ≡ expressions.Chain position x ls → compares (operators_of (known_operations scope ls)) ≡ false
    → found ≡ Known.own (known scope x) → is_some found ≡ true → found ≡ Known.own (known scope e)
own_left scope e x ls position found is c o s =
    o ∙ sym (ap (λ b. if b then Known.own (known scope x) else first_own (owns_of (known_operations scope ls))) (sym (ap is_some o) ∙ s)) ∙ own_by scope e x ls position false is c

pub own_others : (scope : Scope) (e x : Expression) (ls : List Operation) (position : Position) (found rest : Option Elem)
    → e ≡ expressions.Chain position x ls → compares (operators_of (known_operations scope ls)) ≡ false
    → found ≡ Known.own (known scope x) → is_some found ≡ false → rest ≡ first_own (owns_of (known_operations scope ls)) → rest ≡ Known.own (known scope e)
own_others scope e x ls position found rest is c o s r =
    r ∙ sym (ap (λ b. if b then Known.own (known scope x) else first_own (owns_of (known_operations scope ls))) (sym (ap is_some o) ∙ s)) ∙ own_by scope e x ls position false is c

-- ---- calls

pub own_call : (scope : Scope) (c : Call)
    → Known.own (known scope (expressions.Call c)) ≡ call_own (scope.callee c.name.spelling) (owns_in (known_arguments scope c.arguments))
own_call scope c = ap Known.own (call_is scope c)

pub fits_call : (scope : Scope) (c : Call)
    → Known.fits_all (known scope (expressions.Call c)) ≡ (is_some (rule_of (scope.callee c.name.spelling) c.arguments) || is_faulty (scope.callee c.name.spelling))
fits_call scope c = ap Known.fits_all (call_is scope c) ∙ ap (λ rule. is_some rule || is_faulty (scope.callee c.name.spelling)) (rule_known scope (scope.callee c.name.spelling) c.arguments)

-- ---- calls of standard functions

-- the first own type of arguments that give the call its type, where the next by position is the first or not
abbrev pub typed_from : StandardFunction → Bool → List ArgumentKnown → Option Elem
typed_from f is_first [] = None
typed_from f is_first (a ∷ more) =
    if is_some (argument_own f is_first a) then argument_own f is_first a else typed_from f (is_first && is_empty (positional_in a)) more

-- ---- behind the first

-- where further arguments give the call its type
further : (f : StandardFunction) → types_call f false ≡ true → (arguments : List ArgumentKnown) → typed_from f false arguments ≡ first_own (owns_in arguments)
further f h [] = refl
further f h (positional x ∷ more) =
    ap (λ b. if is_some (if b then x.own else None) then (if b then x.own else None) else typed_from f false more) h
    ∙ ap (λ r. if is_some x.own then x.own else r) (further f h more)
further f h (input name x ∷ more) = further f h more
further f h (output name v ∷ more) = further f h more

-- where they don't
no_further : (f : StandardFunction) → types_call f false ≡ false → (arguments : List ArgumentKnown) → typed_from f false arguments ≡ None
no_further f h [] = refl
no_further f h (positional x ∷ more) =
    ap (λ b. if is_some (if b then x.own else None) then (if b then x.own else None) else typed_from f false more) h ∙ no_further f h more
no_further f h (input name x ∷ more) = no_further f h more
no_further f h (output name v ∷ more) = no_further f h more

some_or_none : {A : Type 0} (x : Option A) → (if is_some x then x else None) ≡ (if is_some (if is_some x then x else None) then (if is_some x then x else None) else None)
some_or_none None = refl
some_or_none (Some e) = refl

-- ---- from the first on

-- all arguments give the call its type
all_typed : (f : StandardFunction) → types_call f true ≡ true → types_call f false ≡ true → (arguments : List ArgumentKnown) → typed_from f true arguments ≡ first_own (owns_in arguments)
all_typed f h g [] = refl
all_typed f h g (positional x ∷ more) =
    ap (λ b. if is_some (if b then x.own else None) then (if b then x.own else None) else typed_from f false more) h
    ∙ ap (λ r. if is_some x.own then x.own else r) (further f g more)
all_typed f h g (input name x ∷ more) = all_typed f h g more
all_typed f h g (output name v ∷ more) = all_typed f h g more

-- the first alone does
first_typed : (f : StandardFunction) → types_call f true ≡ true → types_call f false ≡ false → (arguments : List ArgumentKnown) → typed_from f true arguments ≡ first_own (only_first (owns_in arguments))
first_typed f h g [] = refl
first_typed f h g (positional x ∷ more) =
    ap (λ b. if is_some (if b then x.own else None) then (if b then x.own else None) else typed_from f false more) h
    ∙ ap (λ r. if is_some x.own then x.own else r) (no_further f g more)
first_typed f h g (input name x ∷ more) = first_typed f h g more
first_typed f h g (output name v ∷ more) = first_typed f h g more

-- all but the first do
others_typed : (f : StandardFunction) → types_call f true ≡ false → types_call f false ≡ true → (arguments : List ArgumentKnown) → typed_from f true arguments ≡ first_own (without_first (owns_in arguments))
others_typed f h g [] = refl
others_typed f h g (positional x ∷ more) =
    ap (λ b. if is_some (if b then x.own else None) then (if b then x.own else None) else typed_from f false more) h ∙ further f g more
others_typed f h g (input name x ∷ more) = others_typed f h g more
others_typed f h g (output name v ∷ more) = others_typed f h g more

-- the first own type so found is that of the call
pub typed : (f : StandardFunction) (arguments : List ArgumentKnown) → typed_from f true arguments ≡ standard_own f (owns_in arguments)
typed functions.Abs arguments = all_typed functions.Abs refl refl arguments
typed functions.Min arguments = all_typed functions.Min refl refl arguments
typed functions.Max arguments = all_typed functions.Max refl refl arguments
typed functions.Limit arguments = all_typed functions.Limit refl refl arguments
typed functions.Sel arguments = others_typed functions.Sel refl refl arguments
typed functions.Shl arguments = first_typed functions.Shl refl refl arguments
typed functions.Shr arguments = first_typed functions.Shr refl refl arguments
typed functions.Rol arguments = first_typed functions.Rol refl refl arguments
typed functions.Ror arguments = first_typed functions.Ror refl refl arguments
