use Rattle.std.proofs.Common.{sym, ◌∙◌, subst}
use Rattle.std.specs.Prelude.{MatchOption}
use Rattle.st_references.specs.Graphs.{IsOrder}
use Rattle.st_references.specs.References.{graph_of}
use Rattle.st_types.specs.Names.{units_of}
use Rattle.st_check.specs.Recursions.{HasUnitFault, OffersUnitFaults}
use Rattle.st_check.proofs.Kept.{first_of_units, has_order, passes}
use Rattle.st_check.proofs.faults.ordered.Goals as goal

pub unwrap-requires : goal.unwrap-requires
unwrap-requires c =
    has_order c.args.tables.now c.offer_unit_faults.new.first
    (subst (λ s. OffersUnitFaults c.args.tables.now s c.offer_unit_faults.new.first) c.new-first.ensures c.in_ok-order.ensures.offered)
    c.in_ok-order.order _ (sym c.get.ensures ∙ c.in-None.is) c.in_ok-order.ensures.order

pub returns-in-None-clause-order : goal.returns-in-None-clause-order
returns-in-None-clause-order c =
    passes c.args.tables.now c.offer_unit_faults.new.first
    (subst (λ s. OffersUnitFaults c.args.tables.now s c.offer_unit_faults.new.first) c.new-first.ensures c.in_ok-order.ensures.offered)
    c.unwrap.result.items (sym c.get.ensures ∙ c.in-None.is)
    (subst (λ o. MatchOption o (HasUnitFault c.args.tables.now) (λ order. IsOrder (graph_of (units_of c.args.tables.now)) order.items)) c.unwrap.ensures c.in_ok-order.ensures.order)

pub returns-in-Some-clause-fault : goal.returns-in-Some-clause-fault
returns-in-Some-clause-fault c =
    first_of_units c.args.tables.now c.offer_unit_faults.new.first
    (subst (λ s. OffersUnitFaults c.args.tables.now s c.offer_unit_faults.new.first) c.new-first.ensures c.in_ok-order.ensures.offered)
    c.in-Some.fault (sym c.get.ensures ∙ c.in-Some.is)
