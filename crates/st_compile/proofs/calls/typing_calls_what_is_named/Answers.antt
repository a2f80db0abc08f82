use Rattle.st_compile.proofs.NamedStatements.{typing_calls_what_is_named}
use Rattle.st_compile.proofs.calls.typing_calls_what_is_named.Goals as goal

pub returns : goal.returns
returns c = typing_calls_what_is_named
