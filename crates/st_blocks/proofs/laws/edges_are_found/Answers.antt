use Rattle.st_blocks.proofs.EdgeLemmas.{edges_found}
use Rattle.st_blocks.proofs.laws.edges_are_found.Goals as goal

pub returns : goal.returns
returns c = edges_found
