use Rattle.st_blocks.proofs.EdgeLemmas.{reset_dominates, set_dominates}
use Rattle.st_blocks.proofs.laws.inputs_dominate.Goals as goal

pub returns-clause-set : goal.returns-clause-set
returns-clause-set c = set_dominates

pub returns-clause-reset : goal.returns-clause-reset
returns-clause-reset c = reset_dominates
