use Rattle.st_syntax.proofs.Totals.{none_more, short_units}
use Rattle.st_syntax.proofs.laws.parts_are_shorter.Goals as goal

pub returns-clause-each : goal.returns-clause-each
returns-clause-each c = none_more

pub returns-clause-units : goal.returns-clause-units
returns-clause-units c = short_units
