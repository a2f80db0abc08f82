use Rattle.st_charts.proofs.OutcomeLaws.{invocations_have_one_outcome}
use Rattle.st_charts.proofs.laws.invocations_have_one_outcome.Goals as goal

pub returns : goal.returns
returns c = invocations_have_one_outcome
