use Rattle.st_leaves.proofs.Begins.{begin_with_values}
use Rattle.st_leaves.proofs.laws.leaves_begin_with_values.Goals as goal

pub returns : goal.returns
returns c = begin_with_values
