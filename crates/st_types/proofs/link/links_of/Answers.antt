use Rattle.std.proofs.Common.{map, arith, Some}
use Rattle.std.proofs.lemmas.List.{length-map}
use Rattle.st_types.specs.Inside.{named_by}
use Rattle.st_types.proofs.LinkTables.{HasLinks-all, HasLinks-more}
use Rattle.st_types.proofs.Units.{unit_at-map}
use Rattle.st_types.proofs.link.links_of.Goals as goal

pub loop-number-preserved : goal.loop-number-preserved
loop-number-preserved c =
    HasLinks-more c.args.names.now (map named_by c.args.units.now) c.loop-number.number c.loop-number.links.items c.push.new.self.items c.unit_link.result (Some (named_by c.index-units-number.result)) c.loop-number.invariant c.in_ok-push.ensures.items
    (unit_at-map named_by c.args.units.now c.loop-number.number c.index-units-number.result c.loop-number-test.true c.index-units-number.is)
    c.unit_link.ensures.link c.unit_link.ensures.closed

pub returns-clause-links : goal.returns-clause-links
returns-clause-links c =
    HasLinks-all c.args.names.now (map named_by c.args.units.now) c.loop-number.number c.loop-number.links.items c.loop-number.invariant (omega (arith, length-map c.args.units.now named_by, c.loop-number-test.false))
