use Rattle.st_code.proofs.Instances.{runs_are_relative}
use Rattle.st_code.proofs.laws.runs_are_relative.Goals as goal

pub returns : goal.returns
returns c = runs_are_relative
