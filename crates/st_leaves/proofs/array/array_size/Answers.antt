use Rattle.std.proofs.Common.{◌+◌, ◌++◌, codes, length, subst, sym}
use Rattle.st_leaves.specs.Sizes.{IsSize}
use Rattle.st_leaves.specs.Leaves.{choices}
use Rattle.st_leaves.proofs.SizesOf.{sizes_copied}
use Rattle.st_leaves.proofs.SubscriptTexts.{brackets}
use Rattle.st_leaves.proofs.array.array_size.Goals as goal

pub returns : goal.returns
returns c leaves s =
    subst (IsSize c.times.result) (sym (sizes_copied (λ t. codes "[" ++ t ++ codes "]") (λ t. length t + 2) brackets (choices c.args.subscripts.now) leaves)) (c.times.ensures _ _ c.element_texts.ensures s)
