use Rattle.st_layout.proofs.Unrenamed.{wholes_pair_without_renames}
use Rattle.st_layout.proofs.laws.wholes_pair_without_renames.Goals as goal

pub returns : goal.returns
returns c = wholes_pair_without_renames
