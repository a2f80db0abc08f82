use Rattle.std.proofs.Common.{ap, sym, take, ◌∙◌}
use Rattle.st_types.specs.Names.{steps_in}
use Rattle.st_leaves.specs.Charts.{associated_names, associations_in}
use Rattle.st_leaves.proofs.ChartSizes.{associations_more}
use Rattle.st_leaves.proofs.names.AssociatedNames.of.Goals as goal

pub elements-preserved : goal.elements-preserved
elements-preserved c =
    c.in_ok-add_all.ensures (associations_in (take c.elements.element-index c.args.elements.now)) c.elements.invariant
    ∙ ap associated_names
    (sym (associations_more c.args.elements.now c.elements.element-index c.element-item.result c.in-Step.step c.as_slice.result.now c.elements-test.true c.element-item.is (ap steps_in c.in-Step.is) c.as_slice.ensures))
