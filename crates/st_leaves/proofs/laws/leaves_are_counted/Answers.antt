use Rattle.st_leaves.proofs.Numbers.{leaves_are_counted}
use Rattle.st_leaves.proofs.laws.leaves_are_counted.Goals as goal

pub returns : goal.returns
returns c = leaves_are_counted
