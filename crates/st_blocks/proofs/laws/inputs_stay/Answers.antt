use Rattle.st_blocks.proofs.InputLemmas.{inputs_stay}
use Rattle.st_blocks.proofs.laws.inputs_stay.Goals as goal

pub returns : goal.returns
returns c = inputs_stay
