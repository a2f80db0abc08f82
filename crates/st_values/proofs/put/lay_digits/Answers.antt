use Rattle.std.proofs.Common.{◌≡◌, ℕ, ◌+◌, ◌-◌, ◌<◌, ◌∙◌, length, length-set, arith}
use Rattle.st_values.proofs.Laid.{fewer_places, laid_first, laid_next, quotient_falls, some_place}
use Rattle.st_values.proofs.put.lay_digits.Goals as goal

pub loop-number-init : goal.loop-number-init
loop-number-init c = record {
  below = omega arith;
  near = omega arith;
  small = fewer_places c.args.base c.args.number _ c.args.places c.requires.low (omega arith) c.requires.digits;
  laid = rw c.glyph.ensures (laid_first c.args.base c.args.number c.args.buffer.now (c.args.end - 1) c.args.end _ (omega arith) (omega arith) (omega arith));
}

pub overflow_sub-start-in-loop-number : goal.overflow_sub-start-in-loop-number
overflow_sub-start-in-loop-number c =
    let left : 0 < c.loop-number.start + c.args.places - c.args.end = some_place c.loop-number.number _ c.loop-number-test.true c.loop-number.invariant.small in omega arith

pub loop-number-smaller : goal.loop-number-smaller
loop-number-smaller c = quotient_falls c.args.base c.loop-number.number c.loop-number-test.true c.requires.low

pub loop-number-preserved : goal.loop-number-preserved
loop-number-preserved c =
    let left : 0 < c.loop-number.start + c.args.places - c.args.end = some_place c.loop-number.number _ c.loop-number-test.true c.loop-number.invariant.small in
    let same : length c.loop-number.buffer ≡ length c.args.buffer.now = omega (arith, length-set {A = ℕ}) in
    record {
      below = omega arith;
      near = omega arith;
      small = fewer_places c.args.base c.loop-number.number _ (c.loop-number.start + c.args.places - c.args.end) (omega arith) (omega arith) c.loop-number.invariant.small;
      laid = rw c.glyph-in-loop-number.ensures
          (laid_next c.args.base c.loop-number.number c.loop-number.buffer (c.loop-number.start - 1) c.loop-number.start _ (64 - (c.args.end - c.loop-number.start)) (omega arith) (omega arith) (omega arith) c.loop-number-test.true)
          ∙ c.loop-number.invariant.laid;
    }

pub returns-clause-laid : goal.returns-clause-laid
returns-clause-laid c =
    let none : c.loop-number.number ≡ 0 = omega arith in
    rw none at c.loop-number.invariant.laid
