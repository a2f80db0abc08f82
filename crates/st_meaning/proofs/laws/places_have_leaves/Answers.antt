use Rattle.st_meaning.proofs.Places.{places_have_leaves}
use Rattle.st_meaning.proofs.laws.places_have_leaves.Goals as goal

pub returns : goal.returns
returns c = places_have_leaves
