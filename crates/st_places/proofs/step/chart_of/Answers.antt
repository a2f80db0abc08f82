use Rattle.std.proofs.Common.{◌∙◌, ap, sym}
use Rattle.std.specs.Option.{option_copied}
use Rattle.st_places.proofs.Charts.{known_elements, no_elements}
use Rattle.st_places.proofs.step.chart_of.Goals as goal

pub returns-in-Some : goal.returns-in-Some
returns-in-Some c = λ text are. known_elements text c.args.units.now are c.args.unit c.in-Some.parts.now (sym c.parts_of.ensures ∙ ap option_copied c.in-Some.is)

pub returns-in-None : goal.returns-in-None
returns-in-None c = λ text are. no_elements text c.args.units.now are c.args.unit (sym c.parts_of.ensures ∙ ap option_copied c.in-None.is)
