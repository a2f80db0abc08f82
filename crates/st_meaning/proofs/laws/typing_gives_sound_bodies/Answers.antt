use Rattle.st_meaning.proofs.Typing.{typing_gives_sound_bodies}
use Rattle.st_meaning.proofs.laws.typing_gives_sound_bodies.Goals as goal

pub returns : goal.returns
returns c = typing_gives_sound_bodies
