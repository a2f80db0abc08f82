use Rattle.st_compile.proofs.Ranks.{functions_call_below}
use Rattle.st_compile.proofs.calls.functions_call_below.Goals as goal

pub returns : goal.returns
returns c = functions_call_below
