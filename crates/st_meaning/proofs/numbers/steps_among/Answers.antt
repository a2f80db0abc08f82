use Rattle.std.proofs.Common.{sym, ◌∙◌}
use Rattle.st_meaning.proofs.Passages.{number_more, number_none}
use Rattle.st_meaning.proofs.numbers.steps_among.Goals as goal

pub names-preserved : goal.names-preserved
names-preserved c =
    number_more c.args.steps.now c.args.names.now c.names.name-index c.name-item.result c.as_slice.result.now c.in-Some.number c.names.numbers.items c.push.new.self.items c.names-test.true c.name-item.is c.as_slice.ensures
    (sym c.find.ensures.number ∙ c.in-Some.is) c.names.invariant c.in_ok-push.ensures.items

pub names-preserved-in_default : goal.names-preserved-in_default
names-preserved-in_default c =
    number_none c.args.steps.now c.args.names.now c.names.name-index c.name-item.result c.as_slice.result.now c.names.numbers.items c.names-test.true c.name-item.is c.as_slice.ensures
    (sym c.find.ensures.number ∙ c.in_default.is) c.names.invariant
