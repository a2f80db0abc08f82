use Rattle.std.proofs.Common.{arith, ap}
use Rattle.st_types.specs.Names.{steps_in}
use Rattle.st_meaning.proofs.Links.{links_more, number_below, number_more}
use Rattle.st_meaning.proofs.parts.links_of.Goals as goal

pub overflow_add-number : goal.overflow_add-number
overflow_add-number c =
    let most = number_below c.args.elements.now c.elements.element-index c.element-item.result c.in-Step.step c.elements.number c.elements-test.true c.element-item.is (ap steps_in c.in-Step.is) c.elements.invariant.number in
    omega (arith, most, c.requires.steps)

pub elements-preserved : goal.elements-preserved
elements-preserved c = record {
  links =
      links_more c.args.names.now c.args.elements.now c.elements.element-index c.element-item.result c.in-Step.step c.as_slice.result.now c.elements.number c.elements.links.items c.add_links.new.links.items c.elements-test.true
      c.element-item.is (ap steps_in c.in-Step.is) c.as_slice.ensures c.elements.invariant.number c.elements.invariant.links c.in_ok-add_links.ensures;
  number =
      number_more c.args.elements.now c.elements.element-index c.element-item.result c.in-Step.step c.elements.number c.elements-test.true c.element-item.is (ap steps_in c.in-Step.is) c.elements.invariant.number;
}
