use Rattle.std.proofs.Common.{◌∙◌, ap, arith}
use Rattle.std.proofs.lemmas.List.{drop_all}
use Rattle.st_check_units.specs.Subscripts.{subrange_size}
use Rattle.st_check_units.proofs.ArraySizes.{size_done, size_lost, size_turn}
use Rattle.st_check_units.proofs.subscripts.array_size.Goals as goal

pub returns-in_err-size : goal.returns-in_err-size
returns-in_err-size c =
    c.from_residual-in_err-size.ensures
    ∙ size_lost c.args.ranges.now c.loop-range.range-index c.range-item.result c.loop-range-test.true c.loop-range.size c.in_ok-subrange_size.field-0
    (c.in_ok-subrange_size.ensures ∙ ap subrange_size c.range-item.is) _ c.in_err-size.ensures c.loop-range.invariant.product

pub loop-range-preserved : goal.loop-range-preserved
loop-range-preserved c =
    let told = c.in_ok-size.ensures in
    record {
      product = size_turn c.args.ranges.now c.loop-range.range-index c.range-item.result c.loop-range-test.true c.loop-range.size c.in_ok-subrange_size.field-0
          (c.in_ok-subrange_size.ensures ∙ ap subrange_size c.range-item.is) c.in_ok-size.size _ told.1 c.loop-range.invariant.product;
      small = omega (arith, told.0, told.1);
    }

pub returns : goal.returns
returns c = size_done c.args.ranges.now c.loop-range.range-index c.loop-range.size _ (drop_all c.loop-range.range-index c.args.ranges.now c.loop-range-test.false) c.loop-range.invariant.small c.loop-range.invariant.product
