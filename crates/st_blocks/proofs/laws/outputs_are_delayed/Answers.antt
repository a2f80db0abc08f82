use Rattle.st_blocks.proofs.DelayLemmas.{off_is_delayed, on_is_delayed}
use Rattle.st_blocks.proofs.laws.outputs_are_delayed.Goals as goal

pub returns-clause-on : goal.returns-clause-on
returns-clause-on c = on_is_delayed

pub returns-clause-off : goal.returns-clause-off
returns-clause-off c = off_is_delayed
