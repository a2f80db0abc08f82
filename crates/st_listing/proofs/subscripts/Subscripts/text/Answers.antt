use Rattle.std.proofs.Common.{IfOk, List, ◌≡◌, map, subst}
use Rattle.std.specs.String.{string_bytes}
use Rattle.st_leaves.specs.Subscripts.{value_of}
use Rattle.st_leaves.specs.declared.subrange.Number.{Number}
use Rattle.st_leaves.specs.Paths.{index, selector_text}
use Rattle.st_listing.proofs.Choices.{text_of_choice}
use Rattle.st_listing.proofs.subscripts.Subscripts.text.Goals as goal

pub returns : goal.returns
returns c =
    text_of_choice c.self.inside c.args.self.now c.choice_text.result c.self.view_is c.self.invariant
    (subst (λ (numbers : List Number). IfOk c.choice_text.result (λ text. string_bytes text ≡ selector_text (index (map value_of numbers)))) c.deref.ensures.value c.choice_text.ensures)
