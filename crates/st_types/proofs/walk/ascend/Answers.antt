use Rattle.std.proofs.Common.{refl}
use Rattle.st_types.specs.declared.walk.Mark.TheVariants as marks
use Rattle.st_types.proofs.WalkSteps.{last_below, set_keeps, step_up}
use Rattle.st_types.proofs.walk.ascend.Goals as goal

pub steps-preserved : goal.steps-preserved
steps-preserved c = record {
  up = step_up c.args.links.now c.steps.marks.items c.steps.path.items c.pop.new.self.items c.in-Some.unit c.steps.base c.through-base.result c.steps.invariant.up c.in-Some.ensures.items c.through-base.ensures;
  keeps = λ i met. set_keeps c.steps.marks.items c.in-Some.unit (marks.Done c.through-base.result)
      (last_below c.args.links.now c.steps.marks.items c.steps.path.items c.pop.new.self.items c.in-Some.unit c.steps.base c.steps.invariant.up c.in-Some.ensures.items) refl i (c.steps.invariant.keeps i met);
}
