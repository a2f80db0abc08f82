use Rattle.st_code.proofs.Depths.{depth_is_at_most_the_length}
use Rattle.st_code.proofs.laws.depth_is_at_most_the_length.Goals as goal

pub returns : goal.returns
returns c = depth_is_at_most_the_length
