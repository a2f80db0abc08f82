use Rattle.std.proofs.Common.{◌≡◌, ◌<◌, ◌+◌, ◌*◌, ◌∙◌, ap, get_or, arith}
use Rattle.std.specs.Char.{digit_value}
use Rattle.st_values.specs.Numbers.{capped}
use Rattle.st_values.proofs.NumberLemmas.{after_a_digit, after_underscore}
use Rattle.st_values.proofs.number.read_digits.Goals.{in-Some, in_default+then-after_digit+then-byte-eq95}
use Rattle.st_values.proofs.number.read_digits.Goals as goal

pub loop-byte-preserved : goal.loop-byte-preserved
loop-byte-preserved c = elim c.match-to_digit.branch [
  | in-Some w ↦
      let digit_is : w.in-Some.digit ≡ digit_value (get_or c.args.text.now c.loop-byte.byte-index 0) = w.in-Some.ensures.value.1 ∙ ap digit_value c.from.ensures in
      let small : w.in-Some.digit < c.args.base = omega (arith, w.in-Some.ensures.value.0, w.in-Some.ensures.value.1) in
      let next : c.match-to_digit.number ≡ capped (c.loop-byte.number * c.args.base + w.in-Some.digit) =
      rw (w.number-is, w.min-number.ensures, w.from-in-Some.ensures, w.from-in-Some-2.ensures) in
      record {
        small = omega arith;
        told = after_a_digit c.args.base c.loop-byte.after_digit c.match-to_digit.after_digit c.loop-byte.number c.match-to_digit.number w.in-Some.digit c.loop-byte.byte-index c.args.text.now
            (omega arith) c.requires.high c.loop-byte-test.true digit_is small next w.after_digit-is ∙ c.loop-byte.invariant.told;
      }
  | in_default+then-after_digit+then-byte-eq95 w ↦ record {
    small = omega arith;
    told = after_underscore c.args.base c.loop-byte.after_digit c.match-to_digit.after_digit c.loop-byte.number c.match-to_digit.number c.loop-byte.byte-index c.args.text.now
        c.loop-byte-test.true w.if-byte-eq95.true w.number-is w.after_digit-is w.if-after_digit.true ∙ c.loop-byte.invariant.told;
  }
]
