use Rattle.std.proofs.Common.{refl, arith}
use Rattle.st_leaves.specs.Subscripts.{value_of}
use Rattle.st_leaves.proofs.Texts.{near, no_texts, texts_of}
use Rattle.st_leaves.proofs.limited.Choices.of_subrange.Goals as goal

pub returns-then-count-eq0 : goal.returns-then-count-eq0
returns-then-count-eq0 c = no_texts _ (value_of c.args.lower) (value_of c.args.upper) c.numbers_between-count.ensures (omega (arith, c.if-count-eq0.true)) refl

pub returns-else-count-eq0 : goal.returns-else-count-eq0
returns-else-count-eq0 c =
    texts_of _ (value_of c.args.lower) (value_of c.args.upper) (near c.args.lower (omega (arith, c.well_formed))) (near c.args.upper (omega (arith, c.well_formed))) c.numbers_between-count.ensures (omega (arith, c.if-count-eq0.false))
    (omega (arith, c.larger.ensures, c.text_len.ensures.len, c.text_len-else-count-eq0.ensures.len))
    (omega (arith, c.text_len.ensures.len, c.text_len.ensures.few, c.text_len-else-count-eq0.ensures.len, c.text_len-else-count-eq0.ensures.few))
