use Rattle.st_compile.proofs.Checked.{checked_calls_are_those_of_their_bodies}
use Rattle.st_compile.proofs.calls.checked_calls_are_those_of_their_bodies.Goals as goal

pub returns : goal.returns
returns c = checked_calls_are_those_of_their_bodies
