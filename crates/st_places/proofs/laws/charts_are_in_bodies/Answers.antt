use Rattle.st_places.proofs.Roots.{charts_are_in_bodies}
use Rattle.st_places.proofs.laws.charts_are_in_bodies.Goals as goal

pub returns : goal.returns
returns c = charts_are_in_bodies
