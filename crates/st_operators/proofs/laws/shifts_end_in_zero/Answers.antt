use Rattle.st_operators.proofs.Shifting.{shifted_left_far, shifted_right_far}
use Rattle.st_operators.proofs.laws.shifts_end_in_zero.Goals as goal

pub returns-clause-left : goal.returns-clause-left
returns-clause-left c = shifted_left_far

pub returns-clause-right : goal.returns-clause-right
returns-clause-right c = shifted_right_far
