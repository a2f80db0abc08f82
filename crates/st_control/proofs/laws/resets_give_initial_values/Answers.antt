use Rattle.st_control.proofs.Resets.{resets_give_initial, resets_keep_whole, resets_start_anew}
use Rattle.st_control.proofs.laws.resets_give_initial_values.Goals as goal

pub returns-clause-initial : goal.returns-clause-initial
returns-clause-initial c = resets_give_initial

pub returns-clause-whole : goal.returns-clause-whole
returns-clause-whole c = resets_keep_whole

pub returns-clause-anew : goal.returns-clause-anew
returns-clause-anew c = resets_start_anew
