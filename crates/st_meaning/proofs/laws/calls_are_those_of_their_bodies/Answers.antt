use Rattle.st_meaning.proofs.CalledAlone.{calls_are_those_of_their_bodies}
use Rattle.st_meaning.proofs.laws.calls_are_those_of_their_bodies.Goals as goal

pub returns : goal.returns
returns c = calls_are_those_of_their_bodies
