use Rattle.std.proofs.Common.{subst}
use Rattle.st_check.specs.Recursions.{OffersUnitFaults}
use Rattle.st_check.proofs.Kept.{kept_from}
use Rattle.st_check.proofs.faults.fault_from.Goals as goal

pub returns : goal.returns
returns c =
    kept_from c.args.tables.now c.args.start c.offer_unit_faults.new.first
    (subst (λ s. OffersUnitFaults c.args.tables.now s c.offer_unit_faults.new.first) c.from-first.ensures c.in_ok-offer_unit_faults.ensures.offered)
    c.get.result c.get.ensures
