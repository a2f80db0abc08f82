use Rattle.st_blocks.proofs.TypeLemmas.{blocks_keep_their_types}
use Rattle.st_blocks.proofs.laws.blocks_keep_their_types.Goals as goal

pub returns : goal.returns
returns c = blocks_keep_their_types
