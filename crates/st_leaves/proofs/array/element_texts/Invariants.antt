use Rattle.std.proofs.Common.{[], ◌∷◌, take}
use Rattle.std.specs.List.{fold}
use Rattle.st_leaves.specs.Sizes.{AreChoices}
use Rattle.st_leaves.proofs.SubscriptTexts.{with_subscript}
use Rattle.st_leaves.proofs.array.element_texts.Given as goal

-- of the subscripts so far
abbrev pub invariant-subscripts : goal.invariant-subscripts
invariant-subscripts l = AreChoices l.texts (fold with_subscript (0 ∷ []) (take l.range-index l.subscripts))
