use Rattle.st_memory.proofs.Saving.{saved_forces_ascend, saves_dropped_forces, saves_dropped_values, saves_their_widths}
use Rattle.st_memory.proofs.laws.change_saves_dropped.Goals as goal

pub returns-clause-bytes : goal.returns-clause-bytes
returns-clause-bytes c = saves_dropped_values

pub returns-clause-widths : goal.returns-clause-widths
returns-clause-widths c = saves_their_widths

pub returns-clause-forced : goal.returns-clause-forced
returns-clause-forced c = saves_dropped_forces

pub returns-clause-ascending : goal.returns-clause-ascending
returns-clause-ascending c = saved_forces_ascend
