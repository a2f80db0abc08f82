use Rattle.st_meaning.proofs.Commands.{bodies_keep_the_frame}
use Rattle.st_meaning.proofs.laws.bodies_keep_the_frame.Goals as goal

pub returns : goal.returns
returns c = bodies_keep_the_frame
