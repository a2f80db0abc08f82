use Rattle.st_control.proofs.Records.{whole_after}
use Rattle.st_control.proofs.Steps.{load_stays}
use Rattle.st_control.proofs.laws.steps_keep_states_whole.Goals as goal

pub returns-clause-whole : goal.returns-clause-whole
returns-clause-whole c = whole_after

pub returns-clause-load : goal.returns-clause-load
returns-clause-load c = load_stays
