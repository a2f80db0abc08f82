use Rattle.std.proofs.Common.{List, ap, subst, sym, take}
use Rattle.std.specs.List.{flat_map}
use Rattle.st_tree.specs.declared.tree.unit.Step.{Step}
use Rattle.st_types.specs.Names.{steps_in}
use Rattle.st_places.specs.Charts.{HasSteps}
use Rattle.st_places.proofs.Charts.{one_more}
use Rattle.st_places.proofs.chart.Steps.of.Goals as goal

pub elements-preserved : goal.elements-preserved
elements-preserved c =
    subst (λ (steps : List Step). HasSteps steps c.add.new.self)
    (sym (one_more c.args.elements.now c.elements.element-index c.element-item.result c.in-Step.step c.elements-test.true c.element-item.is (ap steps_in c.in-Step.is)))
    (c.in_ok-add.ensures (flat_map steps_in (take c.elements.element-index c.args.elements.now)) c.elements.invariant)
