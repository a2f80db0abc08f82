use Rattle.st_charts.proofs.ClearedLaws.{first_is_cleared, one_comes_before, one_is_cleared_of_a_step, only_shared_are_kept}
use Rattle.st_charts.proofs.laws.priorities_decide.Goals as goal

pub returns-clause-one : goal.returns-clause-one
returns-clause-one c = one_is_cleared_of_a_step

pub returns-clause-first : goal.returns-clause-first
returns-clause-first c = first_is_cleared

pub returns-clause-others : goal.returns-clause-others
returns-clause-others c = only_shared_are_kept

pub returns-clause-order : goal.returns-clause-order
returns-clause-order c = one_comes_before
