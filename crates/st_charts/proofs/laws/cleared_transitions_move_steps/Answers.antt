use Rattle.st_charts.proofs.StepLaws.{followers_are_new, predecessors_are_left}
use Rattle.st_charts.proofs.laws.cleared_transitions_move_steps.Goals as goal

pub returns-clause-followers : goal.returns-clause-followers
returns-clause-followers c = followers_are_new

pub returns-clause-predecessors : goal.returns-clause-predecessors
returns-clause-predecessors c = predecessors_are_left
