use Rattle.st_charts.proofs.NameLaws.{names_are_off, names_are_on, reset_wins}
use Rattle.st_charts.proofs.laws.reset_wins.Goals as goal

pub returns-clause-reset : goal.returns-clause-reset
returns-clause-reset c = reset_wins

pub returns-clause-on : goal.returns-clause-on
returns-clause-on c = names_are_on

pub returns-clause-off : goal.returns-clause-off
returns-clause-off c = names_are_off
