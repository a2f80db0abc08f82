use Rattle.st_meaning.proofs.FunctionCalls.{calls_are_sound}
use Rattle.st_meaning.proofs.laws.calls_are_sound.Goals as goal

pub returns : goal.returns
returns c = calls_are_sound
