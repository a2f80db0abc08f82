use Rattle.st_blocks.proofs.CountLemmas.{counters_move}
use Rattle.st_blocks.proofs.laws.counters_move_by_one.Goals as goal

pub returns : goal.returns
returns c = counters_move
