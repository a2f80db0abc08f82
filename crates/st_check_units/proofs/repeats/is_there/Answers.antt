use Rattle.std.proofs.Common.{ap, is_some, ◌∙◌}
use Rattle.st_values.specs.Words.{is_word}
use Rattle.st_check_units.proofs.NamesTwice.{is_some-position}
use Rattle.st_check_units.proofs.repeats.is_there.Goals as goal

pub returns : goal.returns
returns c = c.is_some.ensures ∙ ap is_some c.find.ensures.number ∙ is_some-position (λ other. is_word other c.args.name.now) c.args.seen.now
