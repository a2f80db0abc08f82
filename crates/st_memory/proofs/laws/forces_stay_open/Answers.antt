use Rattle.st_memory.proofs.OpenForces.{carried_forces_are_open, returned_forces_are_open, saved_forces_are_open}
use Rattle.st_memory.proofs.laws.forces_stay_open.Goals as goal

pub returns-clause-carried : goal.returns-clause-carried
returns-clause-carried c = carried_forces_are_open

pub returns-clause-saved : goal.returns-clause-saved
returns-clause-saved c = saved_forces_are_open

pub returns-clause-returned : goal.returns-clause-returned
returns-clause-returned c = returned_forces_are_open
