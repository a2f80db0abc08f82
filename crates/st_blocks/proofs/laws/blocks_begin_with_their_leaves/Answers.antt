use Rattle.st_blocks.proofs.InputLemmas.{blocks_begin}
use Rattle.st_blocks.proofs.laws.blocks_begin_with_their_leaves.Goals as goal

pub returns : goal.returns
returns c = blocks_begin
