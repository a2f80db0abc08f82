use Rattle.std.proofs.Common.{◌∙◌, ap, arith, sym}
use Rattle.std.specs.Option.{option_copied}
use Rattle.st_places.proofs.Charts.{known_leaf, no_chart}
use Rattle.st_places.proofs.step.chart_leaf.Goals as goal

pub returns-in-Some : goal.returns-in-Some
returns-in-Some c = λ text are small.
    known_leaf text c.args.units.now are c.args.unit c.in-Some.parts.now (sym c.parts_of.ensures ∙ ap option_copied c.in-Some.is) c.min.result (omega (arith, c.min.ensures)) small

pub returns-in-None : goal.returns-in-None
returns-in-None c = λ text are small. no_chart text c.args.units.now are c.args.unit (sym c.parts_of.ensures ∙ ap option_copied c.in-None.is)
