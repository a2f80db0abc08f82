use Rattle.st_charts.proofs.ClearedLaws.{only_enabled_are_cleared}
use Rattle.st_charts.proofs.laws.only_enabled_are_cleared.Goals as goal

pub returns-clause-enabled : goal.returns-clause-enabled
returns-clause-enabled c = only_enabled_are_cleared
