use Rattle.st_memory.proofs.ByPath.{fresh_leaf_is_initial, fresh_leaf_is_not_forced, fresh_pulse_follows_step, fresh_step_is_inactive, kept_force_stays, kept_value_stays}
use Rattle.st_memory.proofs.laws.change_carries_by_path.Goals as goal

pub returns-clause-value : goal.returns-clause-value
returns-clause-value c = kept_value_stays

pub returns-clause-force : goal.returns-clause-force
returns-clause-force c = kept_force_stays

pub returns-clause-fresh : goal.returns-clause-fresh
returns-clause-fresh c = fresh_leaf_is_not_forced

pub returns-clause-step : goal.returns-clause-step
returns-clause-step c = fresh_step_is_inactive

pub returns-clause-pulse : goal.returns-clause-pulse
returns-clause-pulse c = fresh_pulse_follows_step

pub returns-clause-initial : goal.returns-clause-initial
returns-clause-initial c = fresh_leaf_is_initial
