use Rattle.st_meaning.proofs.Typing.{typing_gives_sound_units}
use Rattle.st_meaning.proofs.laws.typing_gives_sound_units.Goals as goal

pub returns : goal.returns
returns c = typing_gives_sound_units
