use Rattle.st_compile.proofs.Elementary.{functions_have_no_blocks, functions_have_no_instances}
use Rattle.st_compile.proofs.calls.checked_functions_have_no_instances.Goals as goal

pub returns-clause-own : goal.returns-clause-own
returns-clause-own c = functions_have_no_instances

pub returns-clause-standard : goal.returns-clause-standard
returns-clause-standard c = functions_have_no_blocks
