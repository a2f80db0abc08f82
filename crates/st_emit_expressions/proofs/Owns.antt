-- The types that expressions have by themselves.
use Rattle.std.proofs.Common.{◌≡◌, ℕ, zero, suc, ◌+◌, ◌<◌, ◌==◌, Bool, true, false, not, if◌then◌else◌, List, [], ◌∷◌, ◌++◌, map, length, drop, get_or, refl, sym, ap, ◌∙◌, arith, add-one, drop-cons}
use Rattle.std.specs.Prelude.{Option, Some, None, ◌&&◌}
use Rattle.std.specs.Option.{is_some}
use Rattle.std.proofs.lemmas.Bool.Decides.{Decides-eqb}
use Rattle.st_values.specs.declared.elem.Elem.{Elem}
use Rattle.st_values.specs.declared.elem.Elem.TheVariants as elems
use Rattle.st_tree.specs.declared.operator.BinOp.{BinOp}
use Rattle.st_tree.specs.declared.tree.expression.Argument.{Argument}
use Rattle.st_tree.specs.declared.tree.expression.Call.{Call, out-Call}
use Rattle.st_tree.specs.declared.tree.expression.Expression.{Expression}
use Rattle.st_tree.specs.declared.tree.expression.Expression.TheVariants as expressions
use Rattle.st_tree.specs.declared.tree.expression.Operation.{Operation, out-Operation}
use Rattle.st_tree.specs.declared.tree.position.Position.{Position}
use Rattle.st_operators.specs.Operators.{is_comparison}
use Rattle.st_types.specs.OwnTypes.{first_own}
use Rattle.st_types.specs.Standard.{standard_of}
use Rattle.st_types.specs.declared.standard.Standard.{Standard}
use Rattle.st_types.specs.declared.standard.Standard.TheVariants as standards
use Rattle.st_types.specs.declared.standard.StandardFunction.{StandardFunction}
use Rattle.st_types.specs.declared.standard.StandardFunction.TheVariants as functions
use Rattle.st_meaning.specs.Typing.{Passed, Typed, argument_typed, call_typed, call_typed_in, chained, combined_all, constant_or, function_typed, joined, named_value, operation_typed, part_or_step, place_typed, typed, unnamed, unnamed_before, untyped, variable_typed}
use Rattle.st_meaning.specs.Terms.{Parts, whole, field_part, element_part}
use Rattle.st_values.specs.declared.value.Value.{Value}
use Rattle.st_meaning.specs.Wholes.{Whole, type_of}
use Rattle.st_meaning.specs.declared.operation.Binary.TheVariants as binaries
use Rattle.st_emit_expressions.specs.Calls.{counts, own_from, passed_in, positionals, standard_typed, takes_number}
use Rattle.st_emit_expressions.specs.Steps.{as_step}
use Rattle.st_emit_expressions.specs.Trees.{chain_of, constant_in, ends_in_comparison, own_behind, own_joined}
use Rattle.st_emit_expressions.proofs.Trees.{call_in_is, chain_is, operation_is, positional_is, input_is, output_is}
use Rattle.st_tree.specs.declared.tree.expression.Argument.TheVariants as arguments
use Rattle.st_tree.specs.declared.tree.expression.Variable.{Variable}
use Rattle.st_tree.specs.declared.tree.position.Identifier.{Identifier}

-- ---- chains

pub joined_own : (o : BinOp) (line : ℕ) (a b : Typed) → (joined o line a b).own ≡ (if is_comparison o then Some elems.Bool else first_own (a.own ∷ b.own ∷ []))
joined_own o line a b = by (is_comparison o) refl where
  by : (c : Bool) → is_comparison o ≡ c → (joined o line a b).own ≡ (if is_comparison o then Some elems.Bool else first_own (a.own ∷ b.own ∷ []))
  by true e = rw e refl
  by false e = rw e refl

operation_own : (w : Whole) (o : Operation) (y : Typed) → (operation_typed w o y).own ≡ own_joined w y.own o
operation_own w o y = ap (λ (t : Typed). t.own) (operation_is w o y) ∙ joined_own (out-Operation o).operator (out-Operation o).position.line y (typed w (out-Operation o).operand)

pub chained_own : (w : Whole) (y : Typed) (os : List Operation) → (chained y (map (operation_typed w) os)).own ≡ own_behind w y.own os
chained_own w y [] = refl
chained_own w y (o ∷ os) = chained_own w (operation_typed w o y) os ∙ ap (λ a. own_behind w a os) (operation_own w o y)

pub chain_own : (w : Whole) (x : Expression) (os : List Operation) → (chain_of w x os).own ≡ own_behind w (typed w x).own os
chain_own w x os = chained_own w (typed w x) os

pub ends_own : (w : Whole) (a : Option Elem) (os : List Operation) → ends_in_comparison os ≡ true → Some elems.Bool ≡ own_behind w a os
ends_own w a [] h = absurd (cc)
ends_own w a (o ∷ []) h = ap (λ c. if c then Some elems.Bool else first_own (a ∷ (typed w (out-Operation o).operand).own ∷ [])) (sym h)
ends_own w a (o ∷ p ∷ os) h = ends_own w (own_joined w a o) (p ∷ os) h

pub last_is : (os : List Operation) (i : ℕ) (o : Operation) → i + 1 ≡ length os → o ≡ get_or os i o → is_comparison (out-Operation o).operator ≡ ends_in_comparison os
last_is [] i o e q = absurd (omega arith)
last_is (p ∷ []) i o e q =
    let z : i ≡ 0 = omega arith in
    ap (λ (x : Operation). is_comparison (out-Operation x).operator) (q ∙ ap (λ k. get_or (p ∷ []) k o) z)
last_is (p ∷ r ∷ os) zero o e q = absurd (omega arith)
last_is (p ∷ r ∷ os) (suc i) o e q = last_is (r ∷ os) i o (omega arith) q

pub whole_own : (w : Whole) (e : Expression) (p : Position) (y : Expression) (os seen : List Operation) (a : Option Elem) → seen ≡ os → e ≡ expressions.Chain p y os → a ≡ (typed w y).own → own_behind w a seen ≡ (typed w e).own
whole_own w e p y os seen a q r f =
    ap (λ l. own_behind w a l) q ∙ ap (λ b. own_behind w b os) f ∙ sym (chain_own w y os) ∙ ap (λ (t : Typed). t.own) (sym (chain_is w p y os)) ∙ ap (λ z. (typed w z).own) (sym r)

pub ended_own : (w : Whole) (e : Expression) (p : Position) (y : Expression) (os seen : List Operation) → seen ≡ os → e ≡ expressions.Chain p y os → ends_in_comparison seen ≡ true → Some elems.Bool ≡ (typed w e).own
ended_own w e p y os seen q r h = ends_own w (typed w y).own seen h ∙ whole_own w e p y os seen (typed w y).own q r refl

-- ---- calls

only : (a : Option Elem) → a ≡ first_own (a ∷ [])
only None = refl
only (Some e) = refl

-- MIN and MAX, from the second argument on
least_from : (n : ℕ) (x : Typed) (ys : List Typed) → (combined_all binaries.Least x ys).own ≡ first_own (x.own ∷ own_from (standards.Function functions.Min) n ys ∷ [])
least_from n x [] = only x.own ∙ by x.own where
  by : (a : Option Elem) → first_own (a ∷ []) ≡ first_own (a ∷ None ∷ [])
  by None = refl
  by (Some e) = refl
least_from n x (y ∷ ys) = least_from (suc n) _ ys ∙ by x.own y.own where
  by : (a b : Option Elem) → first_own (first_own (a ∷ b ∷ []) ∷ own_from (standards.Function functions.Min) (suc n) ys ∷ []) ≡ first_own (a ∷ (if is_some b then b else own_from (standards.Function functions.Min) (suc n) ys) ∷ [])
  by None None = refl
  by None (Some e) = refl
  by (Some e) b = refl

greatest_from : (n : ℕ) (x : Typed) (ys : List Typed) → (combined_all binaries.Greatest x ys).own ≡ first_own (x.own ∷ own_from (standards.Function functions.Max) n ys ∷ [])
greatest_from n x [] = only x.own ∙ by x.own where
  by : (a : Option Elem) → first_own (a ∷ []) ≡ first_own (a ∷ None ∷ [])
  by None = refl
  by (Some e) = refl
greatest_from n x (y ∷ ys) = greatest_from (suc n) _ ys ∙ by x.own y.own where
  by : (a b : Option Elem) → first_own (first_own (a ∷ b ∷ []) ∷ own_from (standards.Function functions.Max) (suc n) ys ∷ []) ≡ first_own (a ∷ (if is_some b then b else own_from (standards.Function functions.Max) (suc n) ys) ∷ [])
  by None None = refl
  by None (Some e) = refl
  by (Some e) b = refl

one_or : (a : Option Elem) → a ≡ (if is_some a then a else None)
one_or None = refl
one_or (Some e) = refl

two_or : (a b : Option Elem) → first_own (a ∷ b ∷ []) ≡ (if is_some a then a else (if is_some b then b else None))
two_or None None = refl
two_or None (Some e) = refl
two_or (Some e) b = refl

three_or : (a b c : Option Elem) → first_own (first_own (a ∷ b ∷ []) ∷ c ∷ []) ≡ (if is_some a then a else (if is_some b then b else (if is_some c then c else None)))
three_or None None None = refl
three_or None None (Some e) = refl
three_or None (Some e) c = refl
three_or (Some e) b c = refl

many_or : (a b : Option Elem) → first_own (a ∷ b ∷ []) ≡ (if is_some a then a else b)
many_or None None = refl
many_or None (Some e) = refl
many_or (Some e) b = refl

wrong : (n m : ℕ) → (n == m) ≡ true → (n ≡ m → ⊥) → ⊥
wrong n m h f = f ((Decides-eqb n m).0 h)

pub function_own : (f : StandardFunction) (xs : List Typed) → takes_number (standards.Function f) (length xs) ≡ true → (function_typed f xs).own ≡ own_from (standards.Function f) 0 xs
function_own functions.Abs [] h = refl
function_own functions.Abs (x ∷ []) h = one_or x.own
function_own functions.Abs (x ∷ y ∷ xs) h = absurd (wrong (length (x ∷ y ∷ xs)) 1 h (λ e. omega arith))
function_own functions.Min [] h = refl
function_own functions.Min (x ∷ xs) h = least_from 1 x xs ∙ many_or x.own _
function_own functions.Max [] h = refl
function_own functions.Max (x ∷ xs) h = greatest_from 1 x xs ∙ many_or x.own _
function_own functions.Limit [] h = refl
function_own functions.Limit (x ∷ []) h = absurd (wrong 1 3 h (λ e. omega arith))
function_own functions.Limit (x ∷ y ∷ []) h = absurd (wrong 2 3 h (λ e. omega arith))
function_own functions.Limit (x ∷ y ∷ z ∷ []) h = three_or x.own y.own z.own
function_own functions.Limit (x ∷ y ∷ z ∷ u ∷ xs) h = absurd (wrong (length (x ∷ y ∷ z ∷ u ∷ xs)) 3 h (λ e. omega arith))
function_own functions.Sel [] h = refl
function_own functions.Sel (x ∷ []) h = absurd (wrong 1 3 h (λ e. omega arith))
function_own functions.Sel (x ∷ y ∷ []) h = absurd (wrong 2 3 h (λ e. omega arith))
function_own functions.Sel (x ∷ y ∷ z ∷ []) h = two_or y.own z.own
function_own functions.Sel (x ∷ y ∷ z ∷ u ∷ xs) h = absurd (wrong (length (x ∷ y ∷ z ∷ u ∷ xs)) 3 h (λ e. omega arith))
function_own functions.Shl [] h = refl
function_own functions.Shl (x ∷ []) h = absurd (wrong 1 2 h (λ e. omega arith))
function_own functions.Shl (x ∷ y ∷ []) h = one_or x.own
function_own functions.Shl (x ∷ y ∷ z ∷ xs) h = absurd (wrong (length (x ∷ y ∷ z ∷ xs)) 2 h (λ e. omega arith))
function_own functions.Shr [] h = refl
function_own functions.Shr (x ∷ []) h = absurd (wrong 1 2 h (λ e. omega arith))
function_own functions.Shr (x ∷ y ∷ []) h = one_or x.own
function_own functions.Shr (x ∷ y ∷ z ∷ xs) h = absurd (wrong (length (x ∷ y ∷ z ∷ xs)) 2 h (λ e. omega arith))
function_own functions.Rol [] h = refl
function_own functions.Rol (x ∷ []) h = absurd (wrong 1 2 h (λ e. omega arith))
function_own functions.Rol (x ∷ y ∷ []) h = one_or x.own
function_own functions.Rol (x ∷ y ∷ z ∷ xs) h = absurd (wrong (length (x ∷ y ∷ z ∷ xs)) 2 h (λ e. omega arith))
function_own functions.Ror [] h = refl
function_own functions.Ror (x ∷ []) h = absurd (wrong 1 2 h (λ e. omega arith))
function_own functions.Ror (x ∷ y ∷ []) h = one_or x.own
function_own functions.Ror (x ∷ y ∷ z ∷ xs) h = absurd (wrong (length (x ∷ y ∷ z ∷ xs)) 2 h (λ e. omega arith))

zero_by_test : (n : ℕ) → not (n == 0) ≡ false → n ≡ 0
zero_by_test n h = by (n == 0) refl where
  by : (b : Bool) → (n == 0) ≡ b → n ≡ 0
  by true e = (Decides-eqb n 0).0 e
  by false e = absurd (cc)

-- with another number of arguments it is no expression of one value
pub function_is_untyped : (f : StandardFunction) (xs : List Typed) → takes_number (standards.Function f) (length xs) ≡ false → function_typed f xs ≡ untyped
function_is_untyped functions.Abs [] h = refl
function_is_untyped functions.Abs (x ∷ []) h = absurd (cc)
function_is_untyped functions.Abs (x ∷ y ∷ xs) h = refl
function_is_untyped functions.Min [] h = refl
function_is_untyped functions.Min (x ∷ xs) h = absurd (omega (arith, zero_by_test (length (x ∷ xs)) h))
function_is_untyped functions.Max [] h = refl
function_is_untyped functions.Max (x ∷ xs) h = absurd (omega (arith, zero_by_test (length (x ∷ xs)) h))
function_is_untyped functions.Limit [] h = refl
function_is_untyped functions.Limit (x ∷ []) h = refl
function_is_untyped functions.Limit (x ∷ y ∷ []) h = refl
function_is_untyped functions.Limit (x ∷ y ∷ z ∷ []) h = absurd (cc)
function_is_untyped functions.Limit (x ∷ y ∷ z ∷ u ∷ xs) h = refl
function_is_untyped functions.Sel [] h = refl
function_is_untyped functions.Sel (x ∷ []) h = refl
function_is_untyped functions.Sel (x ∷ y ∷ []) h = refl
function_is_untyped functions.Sel (x ∷ y ∷ z ∷ []) h = absurd (cc)
function_is_untyped functions.Sel (x ∷ y ∷ z ∷ u ∷ xs) h = refl
function_is_untyped functions.Shl [] h = refl
function_is_untyped functions.Shl (x ∷ []) h = refl
function_is_untyped functions.Shl (x ∷ y ∷ []) h = absurd (cc)
function_is_untyped functions.Shl (x ∷ y ∷ z ∷ xs) h = refl
function_is_untyped functions.Shr [] h = refl
function_is_untyped functions.Shr (x ∷ []) h = refl
function_is_untyped functions.Shr (x ∷ y ∷ []) h = absurd (cc)
function_is_untyped functions.Shr (x ∷ y ∷ z ∷ xs) h = refl
function_is_untyped functions.Rol [] h = refl
function_is_untyped functions.Rol (x ∷ []) h = refl
function_is_untyped functions.Rol (x ∷ y ∷ []) h = absurd (cc)
function_is_untyped functions.Rol (x ∷ y ∷ z ∷ xs) h = refl
function_is_untyped functions.Ror [] h = refl
function_is_untyped functions.Ror (x ∷ []) h = refl
function_is_untyped functions.Ror (x ∷ y ∷ []) h = absurd (cc)
function_is_untyped functions.Ror (x ∷ y ∷ z ∷ xs) h = refl

pub standard_is_untyped : (s : Standard) (xs : List Typed) → takes_number s (length xs) ≡ false → standard_typed s xs ≡ untyped
standard_is_untyped (standards.Function f) xs h = function_is_untyped f xs h
standard_is_untyped (standards.Conversion from to) [] h = refl
standard_is_untyped (standards.Conversion from to) (x ∷ []) h = absurd (cc)
standard_is_untyped (standards.Conversion from to) (x ∷ y ∷ xs) h = refl
standard_is_untyped (standards.Block b) xs h = refl

-- arguments without names
unnamed_append : (xs ys : List Passed) → unnamed (xs ++ ys) ≡ unnamed xs ++ unnamed ys
unnamed_append [] ys = refl
unnamed_append (x ∷ xs) ys = ap (unnamed_before x.name x.value) (unnamed_append xs ys) ∙ by x.name where
  by : (name : Option (List ℕ)) → unnamed_before name x.value (unnamed xs ++ unnamed ys) ≡ unnamed_before name x.value (unnamed xs) ++ unnamed ys
  by None = refl
  by (Some n) = refl

positionals_are : (w : Whole) (all : List Argument) → unnamed (passed_in w all) ≡ positionals w all
positionals_are w [] = refl
positionals_are w (a ∷ all) = unnamed_append (argument_typed w a) (passed_in w all) ∙ ap (λ l. unnamed (argument_typed w a) ++ l) (positionals_are w all)

standard_is : (w : Whole) (line : ℕ) (name : List ℕ) (s : Standard) (xs : List Passed) → call_typed w line name (Some s) xs ≡ standard_typed s (unnamed xs)
standard_is w line name (standards.Function f) xs = refl
standard_is w line name (standards.Conversion from to) xs = refl
standard_is w line name (standards.Block b) xs = refl

-- a call of what the name stands for
pub call_stands : (w : Whole) (c : Call) (seen : List Argument) (o : Option Standard) (s : Standard) → o ≡ standard_of (out-Call c).name.spelling → seen ≡ (out-Call c).arguments → o ≡ Some s
    → standard_typed s (positionals w seen) ≡ call_typed_in w c
call_stands w c seen o s e f g =
    let name = (out-Call c).name in
    ap (standard_typed s) (sym (positionals_are w seen)) ∙ sym (standard_is w name.position.line name.spelling s (passed_in w seen))
    ∙ ap (λ y. call_typed w name.position.line name.spelling y (passed_in w seen)) (sym g ∙ e)
    ∙ ap (λ l. call_typed w name.position.line name.spelling (standard_of name.spelling) (passed_in w l)) f ∙ sym (call_in_is w c)

pub conversion_own : (from to : Elem) (xs : List Typed) → takes_number (standards.Conversion from to) (length xs) ≡ true → Some to ≡ (standard_typed (standards.Conversion from to) xs).own
conversion_own from to [] h = absurd (wrong 0 1 h (λ e. omega arith))
conversion_own from to (x ∷ []) h = refl
conversion_own from to (x ∷ y ∷ xs) h = absurd (wrong (length (x ∷ y ∷ xs)) 1 h (λ e. omega arith))

pub call_none : (w : Whole) (c : Call) (seen : List Argument) (o : Option Standard) (s : Standard) (n : ℕ) → o ≡ standard_of (out-Call c).name.spelling → seen ≡ (out-Call c).arguments → o ≡ Some s
    → n ≡ length (positionals w seen) → takes_number s n ≡ false → None ≡ (call_typed_in w c).own
call_none w c seen o s n e f g h t =
    ap (λ (x : Typed). x.own) (sym (standard_is_untyped s (positionals w seen) (ap (takes_number s) (sym h) ∙ t)) ∙ call_stands w c seen o s e f g)

pub call_conversion : (w : Whole) (c : Call) (seen : List Argument) (o : Option Standard) (s : Standard) (from to : Elem) (n : ℕ) → o ≡ standard_of (out-Call c).name.spelling → seen ≡ (out-Call c).arguments → o ≡ Some s
    → n ≡ length (positionals w seen) → takes_number s n ≡ true → s ≡ standards.Conversion from to → Some to ≡ (call_typed_in w c).own
call_conversion w c seen o s from to n e f g h t i =
    conversion_own from to (positionals w seen) (ap (λ x. takes_number x (length (positionals w seen))) (sym i) ∙ ap (takes_number s) (sym h) ∙ t)
    ∙ ap (λ (x : Typed). x.own) (call_stands w c seen o (standards.Conversion from to) e f (g ∙ ap Some i))

pub call_function : (w : Whole) (c : Call) (seen : List Argument) (o : Option Standard) (s : Standard) (k : StandardFunction) (n : ℕ) → o ≡ standard_of (out-Call c).name.spelling → seen ≡ (out-Call c).arguments → o ≡ Some s
    → n ≡ length (positionals w seen) → takes_number s n ≡ true → s ≡ standards.Function k → own_from s 0 (positionals w seen) ≡ (call_typed_in w c).own
call_function w c seen o s k n e f g h t i =
    ap (λ x. own_from x 0 (positionals w seen)) i
    ∙ sym (function_own k (positionals w seen) (ap (λ x. takes_number x (length (positionals w seen))) (sym i) ∙ ap (takes_number s) (sym h) ∙ t))
    ∙ ap (λ (x : Typed). x.own) (call_stands w c seen o (standards.Function k) e f (g ∙ ap Some i))

pub call_block : (w : Whole) (s : Standard) (n : ℕ) (b : _) → takes_number s n ≡ true → s ≡ standards.Block b → ⊥
call_block w s n b t i = by (sym t ∙ ap (λ x. takes_number x n) i) where
  by : true ≡ false → ⊥
  by e = absurd (cc)

-- ---- arguments

pub arguments_left : (w : Whole) (all : List Argument) (i : ℕ) (a : Argument) → i < length all → a ≡ get_or all i a → positionals w (drop i all) ≡ unnamed (argument_typed w a) ++ positionals w (drop (i + 1) all)
arguments_left w all i a h e = rw add-one (ap (positionals w) (drop-cons all i a h ∙ ap (λ x. x ∷ drop (suc i) all) (sym e)))

pub positional_left : (w : Whole) (all : List Argument) (i : ℕ) (a : Argument) (x : Expression) → i < length all → a ≡ get_or all i a → a ≡ arguments.Positional x
    → positionals w (drop i all) ≡ typed w x ∷ positionals w (drop (i + 1) all)
positional_left w all i a x h e f =
    arguments_left w all i a h e ∙ ap (λ y. unnamed (argument_typed w y) ++ positionals w (drop (i + 1) all)) f ∙ ap (λ l. unnamed l ++ positionals w (drop (i + 1) all)) (positional_is w x)

pub input_left : (w : Whole) (all : List Argument) (i : ℕ) (a : Argument) (n : Identifier) (x : Expression) → i < length all → a ≡ get_or all i a → a ≡ arguments.Input n x
    → positionals w (drop i all) ≡ positionals w (drop (i + 1) all)
input_left w all i a n x h e f =
    arguments_left w all i a h e ∙ ap (λ y. unnamed (argument_typed w y) ++ positionals w (drop (i + 1) all)) f ∙ ap (λ l. unnamed l ++ positionals w (drop (i + 1) all)) (input_is w n x)

pub output_left : (w : Whole) (all : List Argument) (i : ℕ) (a : Argument) (n : Identifier) (v : Variable) → i < length all → a ≡ get_or all i a → a ≡ arguments.Output n v
    → positionals w (drop i all) ≡ positionals w (drop (i + 1) all)
output_left w all i a n v h e f =
    arguments_left w all i a h e ∙ ap (λ y. unnamed (argument_typed w y) ++ positionals w (drop (i + 1) all)) f ∙ ap (λ l. unnamed l ++ positionals w (drop (i + 1) all)) (output_is w n v)

pub own_skip : (s : Standard) (n : ℕ) (x : Typed) (xs : List Typed) (c : Bool) (found : Option Elem) → c ≡ counts s n → found ≡ (if c then x.own else None) → is_some found ≡ false
    → own_from s n (x ∷ xs) ≡ own_from s (n + 1) xs
own_skip s n x xs c found e f g = rw add-one (ap (λ b. if b && is_some x.own then x.own else own_from s (suc n) xs) (sym e) ∙ by c x.own (ap is_some (sym f) ∙ g)) where
  by : (b : Bool) (a : Option Elem) → is_some (if b then a else None) ≡ false → (if b && is_some a then a else own_from s (suc n) xs) ≡ own_from s (suc n) xs
  by true None h = refl
  by true (Some t) h = absurd (cc)
  by false a h = refl

-- ---- variables

-- a place of its type, or else this
abbrev pub place_or : Typed → Parts → Option Elem → Typed
place_or x ps None = x
place_or x ps (Some e) = place_typed ps (Some e)

place_alone : (ps : Parts) (o : Option Elem) → place_typed ps o ≡ place_or untyped ps o
place_alone ps None = refl
place_alone ps (Some e) = refl

part_alone : (w : Whole) (name part : List ℕ) (o : Option Elem)
    → part_or_step w.variables name part o ≡ place_or (as_step w.variables (field_part name (field_part part whole))) (field_part name (field_part part whole)) o
part_alone w name part None = refl
part_alone w name part (Some e) = refl

pub variable_splits : (w : Whole) (ps : Parts) → variable_typed w ps ≡ constant_or (place_or (as_step w.variables ps) ps (type_of w.variables ps)) (constant_in w ps)
variable_splits w whole = place_alone whole _
variable_splits w (field_part name whole) = ap (λ x. constant_or x (w.constants name)) (place_alone (field_part name whole) (type_of w.variables (field_part name whole)))
variable_splits w (field_part name (field_part part whole)) = part_alone w name part (type_of w.variables (field_part name (field_part part whole)))
variable_splits w (field_part name (field_part part (field_part other ps))) = place_alone (field_part name (field_part part (field_part other ps))) _
variable_splits w (field_part name (field_part part (element_part line ts ps))) = place_alone (field_part name (field_part part (element_part line ts ps))) _
variable_splits w (field_part name (element_part line ts ps)) = place_alone (field_part name (element_part line ts ps)) _
variable_splits w (element_part line ts ps) = place_alone (element_part line ts ps) _

pub is_constant : (w : Whole) (ps : Parts) (o : Option Value) (v : Value) → o ≡ constant_in w ps → o ≡ Some v → variable_typed w ps ≡ named_value v
is_constant w ps o v e f = variable_splits w ps ∙ ap (constant_or (place_or (as_step w.variables ps) ps (type_of w.variables ps))) (sym e ∙ f)

pub is_place : (w : Whole) (ps : Parts) (o : Option Value) (t : Elem) → o ≡ constant_in w ps → o ≡ None → type_of w.variables ps ≡ Some t → variable_typed w ps ≡ place_typed ps (Some t)
is_place w ps o t e f g =
    variable_splits w ps ∙ ap (constant_or (place_or (as_step w.variables ps) ps (type_of w.variables ps))) (sym e ∙ f) ∙ ap (place_or (as_step w.variables ps) ps) g

pub is_step : (w : Whole) (ps : Parts) (o : Option Value) → o ≡ constant_in w ps → o ≡ None → type_of w.variables ps ≡ None → variable_typed w ps ≡ as_step w.variables ps
is_step w ps o e f g =
    variable_splits w ps ∙ ap (constant_or (place_or (as_step w.variables ps) ps (type_of w.variables ps))) (sym e ∙ f) ∙ ap (place_or (as_step w.variables ps) ps) g
