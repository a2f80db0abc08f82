use Rattle.st_places.proofs.UnitLaws.{instances_are_of_blocks}
use Rattle.st_places.proofs.laws.instances_are_of_blocks.Goals as goal

pub returns : goal.returns
returns c = instances_are_of_blocks
