use Rattle.st_charts.proofs.StepLaws.{others_stay}
use Rattle.st_charts.proofs.laws.other_steps_stay.Goals as goal

pub returns : goal.returns
returns c = others_stay
