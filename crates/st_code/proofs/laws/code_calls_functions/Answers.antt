use Rattle.st_code.proofs.CalledFunctions.{code_calls_functions}
use Rattle.st_code.proofs.laws.code_calls_functions.Goals as goal

pub returns : goal.returns
returns c = code_calls_functions
