use Rattle.std.proofs.Common.{rules, sym, ◌∙◌, ◌<◌, length, subst, All}
use Rattle.st_references.specs.Graphs.{AreCyclic, IsOrder}
use Rattle.st_types.specs.Names.{units_of}
use Rattle.st_check.proofs.Cyclic.{cyclic_are_units, cyclic_has_fault}
use Rattle.st_check.proofs.Kept.{offers_cyclic, offers_ordered}
use Rattle.st_check.proofs.faults.offer_unit_faults.Goals as goal

pub returns-in-Ok-clause-offered : goal.returns-in-Ok-clause-offered
returns-in-Ok-clause-offered c =
    offers_ordered c.args.tables.now c.deref.result.now c.args.first.now c.check_units.new.first c.in_ok-check_units.ensures
    (c.deref.ensures.value ∙ c.in_ok-graph.ensures.graph) c.in-Ok.ensures.none

pub returns-in-Ok-clause-order : goal.returns-in-Ok-clause-order
returns-in-Ok-clause-order c =
    subst (λ g. IsOrder g c.in-Ok.order.items) (c.deref.ensures.value ∙ c.in_ok-graph.ensures.graph) c.in-Ok.ensures.order

pub offer_recursions-requires : goal.offer_recursions-requires
offer_recursions-requires c =
    subst (All (λ i. i < length (units_of c.args.tables.now))) (sym c.deref-in-Err-Cyclic.ensures.value)
    (cyclic_are_units (units_of c.args.tables.now) c.in-Err-Cyclic.numbers.items
    (subst (λ g. AreCyclic g c.in-Err-Cyclic.numbers.items) (c.deref.ensures.value ∙ c.in_ok-graph.ensures.graph)
    (c.in-Err-Cyclic.ensures.cyclic c.in-Err-Cyclic.numbers (search rules))))

pub returns-in-Err-Cyclic-clause-offered : goal.returns-in-Err-Cyclic-clause-offered
returns-in-Err-Cyclic-clause-offered c =
    offers_cyclic c.args.tables.now c.deref.result.now c.in-Err-Cyclic.numbers.items c.deref-in-Err-Cyclic.result.now c.args.first.now c.check_units.new.first c.offer_recursions.new.first
    c.in_ok-check_units.ensures c.offer_recursions.ensures c.deref-in-Err-Cyclic.ensures.value
    (c.deref.ensures.value ∙ c.in_ok-graph.ensures.graph) (c.in-Err-Cyclic.ensures.cyclic c.in-Err-Cyclic.numbers (search rules))

pub returns-in-Err-Cyclic-clause-order : goal.returns-in-Err-Cyclic-clause-order
returns-in-Err-Cyclic-clause-order c =
    cyclic_has_fault c.args.tables.now c.in-Err-Cyclic.numbers.items
    (subst (λ g. AreCyclic g c.in-Err-Cyclic.numbers.items) (c.deref.ensures.value ∙ c.in_ok-graph.ensures.graph)
    (c.in-Err-Cyclic.ensures.cyclic c.in-Err-Cyclic.numbers (search rules)))
