use Rattle.std.proofs.Common.{[], ◌∷◌, ap, arith, subst, ◌∙◌}
use Rattle.std.specs.List.{fold}
use Rattle.std.proofs.lemmas.List.{take_all}
use Rattle.st_leaves.specs.Sizes.{AreChoices, pairs}
use Rattle.st_leaves.proofs.SubscriptTexts.{all_chosen, one_more, with_subscript}
use Rattle.st_leaves.proofs.array.element_texts.Goals as goal

pub returns : goal.returns
returns c =
    subst (AreChoices c.times-2.result)
    (ap (λ rs. pairs (fold with_subscript (0 ∷ []) rs) (1 ∷ [])) (take_all c.subscripts.range-index c.args.subscripts.now c.subscripts-test.false)
    ∙ all_chosen c.args.subscripts.now (grind (arith, c.if-is_empty.false, c.is_empty.ensures, c.if-is_empty.ensures)))
    (c.times-2.ensures _ _ c.subscripts.invariant c.of_text-separator.ensures)

pub subscripts-preserved : goal.subscripts-preserved
subscripts-preserved c =
    subst (AreChoices c.times-texts.result) (one_more c.args.subscripts.now c.subscripts.range-index c.range-item.result (omega (arith, c.subscripts-test.true)) c.range-item.is)
    (c.times-texts.ensures _ _ (c.times.ensures _ _ c.subscripts.invariant c.of_text-separator.ensures) c.subscript_texts.ensures)
