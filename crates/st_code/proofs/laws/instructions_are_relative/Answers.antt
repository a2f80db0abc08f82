use Rattle.st_code.proofs.Relative.{instructions_are_relative}
use Rattle.st_code.proofs.laws.instructions_are_relative.Goals as goal

pub returns : goal.returns
returns c = instructions_are_relative
