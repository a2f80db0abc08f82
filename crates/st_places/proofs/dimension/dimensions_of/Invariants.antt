use Rattle.st_places.proofs.Dimensions.{AreBehind}
use Rattle.st_places.proofs.dimension.dimensions_of.Given as goal

abbrev pub invariant-dimensions : goal.invariant-dimensions
invariant-dimensions l = AreBehind l.element l.ranges l.left l.items.items l.count

abbrev pub decreases-dimensions : goal.decreases-dimensions
decreases-dimensions l = l.left
