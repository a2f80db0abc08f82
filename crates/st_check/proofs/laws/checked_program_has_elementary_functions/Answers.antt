use Rattle.st_check.proofs.ElementaryFunctions.{elementary_functions}
use Rattle.st_check.proofs.laws.checked_program_has_elementary_functions.Goals as goal

pub returns : goal.returns
returns c = elementary_functions
