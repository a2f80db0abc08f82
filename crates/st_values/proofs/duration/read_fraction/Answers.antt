use Rattle.std.proofs.Common.{arith, ◌≡◌, ◌≢◌, ◌+◌, ◌-◌, ◌*◌, ◌%◌, ◌<◌, ◌∙◌, ap, sym, get_or, length, Some}
use Rattle.std.proofs.lemmas.Grind.{common_steps}
use Rattle.std.specs.Char.{digit_value}
use Rattle.st_values.proofs.FractionLemmas.{fraction_read-share, share, share-rest}
use Rattle.st_values.proofs.duration.read_fraction.Goals as goal

pub returns-then-share-ne0-clause-value : goal.returns-then-share-ne0-clause-value
returns-then-share-ne0-clause-value c =
    let some : 0 < length c.args.digits.now = omega arith in
    let digit : c.from-in-loop-i.result ≡ digit_value (get_or c.args.digits.now (c.loop-i.i - 1) 0) =
    c.from-in-loop-i.ensures ∙ c.in_ok-digit.ensures.value.1 ∙ ap digit_value c.from.ensures in
    let rest : (c.loop-i.share + digit_value (get_or c.args.digits.now (c.loop-i.i - 1) 0) * c.milliseconds-whole.result) % 10 ≢ 0 = rw digit at c.if-share-ne0.true in
    sym (fraction_read-share c.args.unit c.args.digits.now some
    ∙ ap (λ n. share n c.args.digits.now) (sym c.milliseconds-whole.ensures.value)
    ∙ share-rest c.milliseconds-whole.result c.loop-i.share (c.loop-i.i - 1) c.loop-i.i c.args.digits.now (omega arith) (omega arith) c.loop-i.invariant.told rest)

pub returns-clause-value : goal.returns-clause-value
returns-clause-value c =
    let some : 0 < length c.args.digits.now = grind (arith, common_steps) in
    let none_left : c.loop-i.i ≡ 0 = omega arith in
    let all : share c.milliseconds-whole.result c.args.digits.now ≡ Some c.loop-i.share = rw none_left at c.loop-i.invariant.told in
    sym (fraction_read-share c.args.unit c.args.digits.now some
    ∙ ap (λ n. share n c.args.digits.now) (sym c.milliseconds-whole.ensures.value)
    ∙ all)
