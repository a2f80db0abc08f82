-- Where X or T of a step is written.
use Rattle.std.proofs.Common.{◌≡◌, ℕ, List, [], ◌∷◌, length, get_or, refl, sym, ap, ◌∙◌, arith}
use Rattle.std.specs.Prelude.{None}
use Rattle.st_tree.specs.declared.tree.expression.Argument.TheOpen.{Part-F}
use Rattle.st_tree.specs.declared.tree.expression.Argument.{Argument}
use Rattle.st_tree.specs.declared.tree.expression.Call.{Call}
use Rattle.st_tree.specs.declared.tree.expression.Expression.{Expression}
use Rattle.st_tree.specs.declared.tree.expression.Operation.{Operation}
use Rattle.st_tree.specs.declared.tree.expression.Part.{Part, fold_out-Part, map-Part, out-Part}
use Rattle.st_tree.specs.declared.tree.expression.Part.TheVariants as selectors
use Rattle.st_tree.specs.declared.tree.expression.Variable.{Variable, out-Variable}
use Rattle.st_tree.specs.declared.tree.position.Identifier.{Identifier}
use Rattle.st_tree.specs.declared.tree.position.Position.{Position}
use Rattle.st_types.specs.Compositions.{Composition}
use Rattle.st_meaning.specs.Terms.{Parts, whole, field_part}
use Rattle.st_meaning.specs.Typing.{argument_typed, call_typed_in, operation_typed, part_typed, place_of, step_part, typed, typed_part}
use Rattle.st_meaning.specs.Wholes.{Whole}
use Rattle.st_emit_expressions.specs.Steps.{step_leaf_at, step_leaf_named}
use Rattle.st_emit_expressions.specs.Trees.{parts_in}
use Rattle.st_emit_expressions.proofs.Trees.{field_is, place_is, subscripts_are}

no_longer : (w : Whole) (root : Composition) (name part : List ℕ) (x : Part-F Argument Expression Part Call Operation Variable) (rest : Parts)
    → step_leaf_at root (field_part name (field_part part (typed_part (map-Part _ _ _ _ _ _ _ _ _ _ _ _ (argument_typed w) (typed w) (part_typed w) (call_typed_in w) (operation_typed w) (place_of w) x) rest))) ≡ None
no_longer w root name part (Part-F.Field n) rest = refl
no_longer w root name part (Part-F.Subscripts p xs) rest = refl

no_two : (w : Whole) (root : Composition) (name : List ℕ) (x : Part-F Argument Expression Part Call Operation Variable) (q : Part) (rest : Parts)
    → step_leaf_at root (field_part name (typed_part (map-Part _ _ _ _ _ _ _ _ _ _ _ _ (argument_typed w) (typed w) (part_typed w) (call_typed_in w) (operation_typed w) (place_of w) x) (part_typed w q rest))) ≡ None
no_two w root name (Part-F.Field n) q rest =
    ap (λ (g : Parts → Parts). step_leaf_at root (field_part name (field_part n.spelling (g rest)))) (fold_out-Part _ _ _ _ _ _ _ _ _ _ _ _ q) ∙ no_longer w root name n.spelling (out-Part q) rest
no_two w root name (Part-F.Subscripts p xs) q rest = refl

-- with no part, or with two and more
pub other_number : (w : Whole) (root : Composition) (v : Variable) (ps : List Part) → ps ≡ (out-Variable v).parts → (length ps ≡ 1 → ⊥) → None ≡ step_leaf_at root (place_of w v)
other_number w root v [] e f = ap (λ l. step_leaf_at root (field_part (out-Variable v).name.spelling (parts_in w l))) e ∙ ap (step_leaf_at root) (sym (place_is w v))
other_number w root v (p ∷ []) e f = absurd (f refl)
other_number w root v (p ∷ q ∷ ps) e f =
    let name = (out-Variable v).name.spelling in
    sym (no_two w root name (out-Part p) q (parts_in w ps))
    ∙ ap (λ (g : Parts → Parts). step_leaf_at root (field_part name (g (part_typed w q (parts_in w ps))))) (sym (fold_out-Part _ _ _ _ _ _ _ _ _ _ _ _ p))
    ∙ ap (λ l. step_leaf_at root (field_part name (parts_in w l))) e ∙ ap (step_leaf_at root) (sym (place_is w v))

one_part : (w : Whole) (v : Variable) (ps : List Part) (p : Part) → ps ≡ (out-Variable v).parts → length ps ≡ 1 → p ≡ get_or ps 0 p → place_of w v ≡ field_part (out-Variable v).name.spelling (part_typed w p whole)
one_part w v [] p e n q = absurd (omega arith)
one_part w v (x ∷ []) p e n q =
    place_is w v ∙ ap (λ l. field_part (out-Variable v).name.spelling (parts_in w l)) (sym e) ∙ ap (λ y. field_part (out-Variable v).name.spelling (part_typed w y whole)) (sym q)
one_part w v (x ∷ y ∷ ps) p e n q = absurd (omega arith)

-- with one that is a name
pub named_part : (w : Whole) (root : Composition) (v : Variable) (ps : List Part) (p : Part) (n : Identifier) (name part : List ℕ) → ps ≡ (out-Variable v).parts → length ps ≡ 1 → p ≡ get_or ps 0 p → p ≡ selectors.Field n
    → name ≡ (out-Variable v).name.spelling → part ≡ n.spelling → step_leaf_named root name (step_part part) ≡ step_leaf_at root (place_of w v)
named_part w root v ps p n name part e k q f g h =
    ap (λ s. step_leaf_named root s (step_part part)) g ∙ ap (λ s. step_leaf_named root (out-Variable v).name.spelling (step_part s)) h
    ∙ ap (λ y. step_leaf_at root (field_part (out-Variable v).name.spelling y)) (sym (field_is w n whole)) ∙ ap (λ y. step_leaf_at root (field_part (out-Variable v).name.spelling (part_typed w y whole))) (sym f)
    ∙ ap (step_leaf_at root) (sym (one_part w v ps p e k q))

-- with subscripts
pub subscripts_part : (w : Whole) (root : Composition) (v : Variable) (ps : List Part) (p : Part) (at : Position) (xs : List Expression) → ps ≡ (out-Variable v).parts → length ps ≡ 1 → p ≡ get_or ps 0 p → p ≡ selectors.Subscripts at xs
    → None ≡ step_leaf_at root (place_of w v)
subscripts_part w root v ps p at xs e k q f =
    ap (λ y. step_leaf_at root (field_part (out-Variable v).name.spelling y)) (sym (subscripts_are w at xs whole)) ∙ ap (λ y. step_leaf_at root (field_part (out-Variable v).name.spelling (part_typed w y whole))) (sym f)
    ∙ ap (step_leaf_at root) (sym (one_part w v ps p e k q))
