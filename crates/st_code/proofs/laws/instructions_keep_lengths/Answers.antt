use Rattle.st_code.proofs.Lengths.{instructions_keep_lengths}
use Rattle.st_code.proofs.laws.instructions_keep_lengths.Goals as goal

pub returns : goal.returns
returns c = instructions_keep_lengths
