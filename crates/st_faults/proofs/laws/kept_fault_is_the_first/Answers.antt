use Rattle.st_faults.proofs.Least.{first_kept_from, none_kept_from}
use Rattle.st_faults.proofs.laws.kept_fault_is_the_first.Goals as goal

pub returns-clause-first : goal.returns-clause-first
returns-clause-first c = first_kept_from

pub returns-clause-none : goal.returns-clause-none
returns-clause-none c = none_kept_from
