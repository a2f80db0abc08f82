-- What the folds over expressions are at each variant.
use Rattle.std.proofs.Common.{◌≡◌, ℕ, suc, ◌+◌, ◌<◌, List, [], ◌∷◌, ◌++◌, map, length, take, drop, get_or, refl, sym, ap, ◌∙◌, rules, add-one, drop-cons}
use Rattle.std.specs.Prelude.{Some, None}
use Rattle.std.proofs.Math.Seq.{take-suc}
use Rattle.std.proofs.lemmas.List.{map-append}
use Rattle.st_tree.specs.declared.tree.expression.Argument.{the_lemmas}
use Rattle.st_tree.specs.declared.tree.expression.Argument.TheVariants as arguments
use Rattle.st_tree.specs.declared.tree.expression.Call.{Call, out-Call}
use Rattle.st_tree.specs.declared.tree.expression.Expression.{Expression}
use Rattle.st_tree.specs.declared.tree.expression.Expression.TheVariants as expressions
use Rattle.st_tree.specs.declared.tree.expression.Operation.{Operation, out-Operation}
use Rattle.st_tree.specs.declared.tree.expression.Part.{Part}
use Rattle.st_tree.specs.declared.tree.expression.Part.TheVariants as selectors
use Rattle.st_tree.specs.declared.tree.expression.Variable.{Variable, out-Variable}
use Rattle.st_tree.specs.declared.tree.position.Identifier.{Identifier}
use Rattle.st_tree.specs.declared.tree.position.Position.{Position}
use Rattle.st_types.specs.Standard.{standard_of}
use Rattle.st_meaning.specs.Terms.{Parts, field_part, element_part}
use Rattle.st_meaning.specs.Typing.{Typed, argument_typed, call_typed, call_typed_in, chained, joined, operation_typed, part_typed, passed, place_of, typed}
use Rattle.st_meaning.specs.Wholes.{Whole}
use Rattle.st_emit_expressions.specs.Calls.{passed_in}
use Rattle.st_emit_expressions.specs.Emits.{terms_in}
use Rattle.st_emit_expressions.specs.Trees.{chain_of, parts_in}

pub call_is : (w : Whole) (c : Call) → typed w (expressions.Call c) ≡ call_typed_in w c
call_is w c = search (rules, the_lemmas)

pub chain_is : (w : Whole) (p : Position) (x : Expression) (os : List Operation) → typed w (expressions.Chain p x os) ≡ chain_of w x os
chain_is w p x os = search (rules, the_lemmas)

pub operation_is : (w : Whole) (o : Operation) (y : Typed) → operation_typed w o y ≡ joined (out-Operation o).operator (out-Operation o).position.line y (typed w (out-Operation o).operand)
operation_is w o y = search (rules, the_lemmas)

pub call_in_is : (w : Whole) (c : Call)
    → call_typed_in w c ≡ call_typed w (out-Call c).name.position.line (out-Call c).name.spelling (standard_of (out-Call c).name.spelling) (passed_in w (out-Call c).arguments)
call_in_is w c = search (rules, the_lemmas)

pub positional_is : (w : Whole) (x : Expression) → argument_typed w (arguments.Positional x) ≡ passed None (typed w x)
positional_is w x = search (rules, the_lemmas)

pub input_is : (w : Whole) (n : Identifier) (x : Expression) → argument_typed w (arguments.Input n x) ≡ passed (Some n.spelling) (typed w x)
input_is w n x = search (rules, the_lemmas)

pub output_is : (w : Whole) (n : Identifier) (v : Variable) → argument_typed w (arguments.Output n v) ≡ []
output_is w n v = search (rules, the_lemmas)

pub field_is : (w : Whole) (n : Identifier) (ps : Parts) → part_typed w (selectors.Field n) ps ≡ field_part n.spelling ps
field_is w n ps = search (rules, the_lemmas)

pub subscripts_are : (w : Whole) (p : Position) (xs : List Expression) (ps : Parts) → part_typed w (selectors.Subscripts p xs) ps ≡ element_part p.line (terms_in w xs) ps
subscripts_are w p xs ps = search (rules, the_lemmas)

pub place_is : (w : Whole) (v : Variable) → place_of w v ≡ field_part (out-Variable v).name.spelling (parts_in w (out-Variable v).parts)
place_is w v = search (rules, the_lemmas)

-- ---- chains

chained_snoc : (y : Typed) (fs : List (Typed → Typed)) (f : Typed → Typed) → chained y (fs ++ f ∷ []) ≡ f (chained y fs)
chained_snoc y [] f = refl
chained_snoc y (g ∷ fs) f = chained_snoc (g y) fs f

-- one operation more
pub chain_more : (w : Whole) (y : Expression) (os : List Operation) (i : ℕ) (o : Operation) → i < length os → o ≡ get_or os i o
    → chain_of w y (take (i + 1) os) ≡ joined (out-Operation o).operator (out-Operation o).position.line (chain_of w y (take i os)) (typed w (out-Operation o).operand)
chain_more w y os i o h e =
    rw add-one
    (ap (λ l. chained (typed w y) (map (operation_typed w) l)) (take-suc os i o h ∙ ap (λ x. take i os ++ x ∷ []) (sym e))
    ∙ ap (chained (typed w y)) (map-append (operation_typed w) (take i os) (o ∷ []))
    ∙ chained_snoc (typed w y) (map (operation_typed w) (take i os)) (operation_typed w o)
    ∙ operation_is w o (chain_of w y (take i os)))

-- ---- parts

pub left_is : (w : Whole) (ps : List Part) (i : ℕ) (p : Part) → i < length ps → p ≡ get_or ps i p → parts_in w (drop i ps) ≡ part_typed w p (parts_in w (drop (i + 1) ps))
left_is w ps i p h e = rw add-one (ap (parts_in w) (drop-cons ps i p h ∙ ap (λ x. x ∷ drop (suc i) ps) (sym e)))
