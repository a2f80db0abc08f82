use Rattle.st_check.proofs.Passing.{has_no_recursion}
use Rattle.st_check.proofs.laws.checked_program_has_no_recursion.Goals as goal

pub returns : goal.returns
returns c = has_no_recursion
