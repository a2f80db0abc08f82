use Rattle.st_control.proofs.Steps.{given_back, in_order}
use Rattle.st_control.proofs.laws.undos_give_back_states.Goals as goal

pub returns-clause-given_back : goal.returns-clause-given_back
returns-clause-given_back c = given_back

pub returns-clause-in_order : goal.returns-clause-in_order
returns-clause-in_order c = in_order
