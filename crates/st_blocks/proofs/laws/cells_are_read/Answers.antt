use Rattle.st_blocks.proofs.CellLemmas.{cells_are_read}
use Rattle.st_blocks.proofs.laws.cells_are_read.Goals as goal

pub returns : goal.returns
returns c = cells_are_read
