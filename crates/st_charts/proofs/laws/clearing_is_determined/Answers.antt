use Rattle.st_charts.proofs.ClearedLaws.{cleared_are_determined}
use Rattle.st_charts.proofs.laws.clearing_is_determined.Goals as goal

pub returns : goal.returns
returns c = cleared_are_determined
