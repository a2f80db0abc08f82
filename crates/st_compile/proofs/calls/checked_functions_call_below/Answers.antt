use Rattle.st_compile.proofs.Checked.{checked_functions_call_below}
use Rattle.st_compile.proofs.calls.checked_functions_call_below.Goals as goal

pub returns : goal.returns
returns c = checked_functions_call_below
