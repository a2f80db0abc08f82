use Rattle.st_operators.proofs.Shifting.{rotated_back}
use Rattle.st_operators.proofs.laws.rotations_go_round.Goals as goal

pub returns-clause-back : goal.returns-clause-back
returns-clause-back c = rotated_back
