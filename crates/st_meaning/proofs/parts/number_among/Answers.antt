use Rattle.std.proofs.Common.{sym, ◌∙◌}
use Rattle.st_values.specs.Words.{is_word}
use Rattle.st_meaning.proofs.Lists.{found_at, found_nowhere}
use Rattle.st_meaning.proofs.parts.number_among.Goals as goal

pub returns-in-None : goal.returns-in-None
returns-in-None c = c.len.ensures ∙ sym (found_nowhere (is_word c.args.name.now) c.args.names.now (sym c.find.ensures.number ∙ c.in-None.is))

pub returns-in-Some : goal.returns-in-Some
returns-in-Some c = sym (found_at (is_word c.args.name.now) c.args.names.now c.in-Some.number (sym c.find.ensures.number ∙ c.in-Some.is))
