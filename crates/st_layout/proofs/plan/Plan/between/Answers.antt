use Rattle.std.proofs.Common.{◌∙◌}
use Rattle.st_layout.proofs.Pairings.{pairing_if_made}
use Rattle.st_layout.proofs.plan.Plan.between.Goals as goal

pub returns-clause-pairing : goal.returns-clause-pairing
returns-clause-pairing c =
    pairing_if_made c.args.old.now c.args.new.now c.args.renames.now _ _ _ (c.deref-2.ensures.value ∙ c.in_ok-targets.ensures.ok) c.len.ensures.value c.of.ensures.ok c.of.ensures.apart
