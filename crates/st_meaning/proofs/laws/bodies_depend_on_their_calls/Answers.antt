use Rattle.st_meaning.proofs.CalledAlone.{bodies_depend_on_their_calls}
use Rattle.st_meaning.proofs.laws.bodies_depend_on_their_calls.Goals as goal

pub returns : goal.returns
returns c = bodies_depend_on_their_calls
