use Rattle.st_meaning.proofs.Commands.{commands_keep_the_frame}
use Rattle.st_meaning.proofs.laws.commands_keep_the_frame.Goals as goal

pub returns : goal.returns
returns c = commands_keep_the_frame
