use Rattle.st_leaves.proofs.Composed.{leaves_are_those_of_the_composition}
use Rattle.st_leaves.proofs.laws.leaves_follow_the_composition.Goals as goal

pub returns : goal.returns
returns c = leaves_are_those_of_the_composition
