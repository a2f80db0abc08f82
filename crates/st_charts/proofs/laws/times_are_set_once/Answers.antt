use Rattle.st_charts.proofs.OutcomeLaws.{times_are_set_once}
use Rattle.st_charts.proofs.laws.times_are_set_once.Goals as goal

pub returns : goal.returns
returns c = times_are_set_once
