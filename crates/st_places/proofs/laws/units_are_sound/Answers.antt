use Rattle.st_places.proofs.SoundUnits.{units_are_sound}
use Rattle.st_places.proofs.laws.units_are_sound.Goals as goal

pub returns : goal.returns
returns c = units_are_sound
