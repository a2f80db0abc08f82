use Rattle.st_meaning.proofs.TermValues.{places_take_steps}
use Rattle.st_meaning.proofs.laws.places_take_steps.Goals as goal

pub returns : goal.returns
returns c = places_take_steps
