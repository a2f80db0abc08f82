use Rattle.std.proofs.Common.{arith}
use Rattle.st_meaning.proofs.SketchPlaces.{next_place, places_more}
use Rattle.st_meaning.proofs.offsets.offsets_of.Goals as goal

pub pulses-preserved : goal.pulses-preserved
pulses-preserved c = record {
  steps =
      places_more c.args.pulses.now c.pulses.has_pulses-index c.pulses.place c.pulses.steps.items c.push.new.self.items c.pulses-test.true c.pulses.invariant.next c.pulses.invariant.steps c.in_ok-push.ensures.items;
  next = next_place c.args.pulses.now c.pulses.has_pulses-index _ c.pulses.place c.leaves_of_step-place.result c.pulses-test.true c.pulses.invariant.next c.leaves_of_step-place.ensures.count;
  few = omega (arith, c.pulses.invariant.few, c.leaves_of_step-place.ensures.few);
}
