use Rattle.std.proofs.Common.{◌∙◌, ap}
use Rattle.st_faults.specs.Faults.{offer_all}
use Rattle.st_check_units.specs.Subscripts.{subrange_faults}
use Rattle.st_faults.proofs.Offers.{turn_at}
use Rattle.st_check_units.proofs.subscripts.check_subranges.Goals as goal

pub loop-range-preserved : goal.loop-range-preserved
loop-range-preserved c =
    turn_at subrange_faults c.args.ranges.now c.loop-range.range-index c.range-item.result c.loop-range.first c.check_subrange.new.first _ c.loop-range-test.true
    (c.check_subrange.ensures ∙ ap (λ r. offer_all c.loop-range.first (subrange_faults r)) c.range-item.is) c.loop-range.invariant
