use Rattle.st_leaves.proofs.Places.{places_are_numbers}
use Rattle.st_leaves.proofs.laws.places_are_numbers.Goals as goal

pub returns : goal.returns
returns c = places_are_numbers
