use Rattle.std.proofs.Common.{arith}
use Rattle.std.proofs.lemmas.Fmt.{length-decimal-le_wide}
use Rattle.st_leaves.proofs.Texts.{all_counted, counted_one, few_counted}
use Rattle.st_leaves.proofs.subrange.decimal_len.Goals as goal

pub overflow_add-digits : goal.overflow_add-digits
overflow_add-digits c = record { fits = few_counted c.args.number c.digits.rest c.digits.digits c.ranges.number.fits (omega (arith, c.digits-test.true)) c.digits.invariant }

pub digits-preserved : goal.digits-preserved
digits-preserved c = counted_one c.args.number c.digits.rest c.digits.digits c.ranges.number.fits (omega (arith, c.digits-test.true)) c.digits.invariant

pub returns-clause-len : goal.returns-clause-len
returns-clause-len c = all_counted c.args.number c.digits.rest c.digits.digits (omega (arith, c.digits-test.false)) c.digits.invariant

pub returns-clause-few : goal.returns-clause-few
returns-clause-few c =
    omega (arith, all_counted c.args.number c.digits.rest c.digits.digits (omega (arith, c.digits-test.false)) c.digits.invariant, length-decimal-le_wide 39 c.args.number (omega arith) (omega (arith, c.ranges.number.fits)) (omega (arith, c.ranges.number.fits)))
