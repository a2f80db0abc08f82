use Rattle.st_compile.proofs.TypedUnits.{names_are_tied}
use Rattle.st_compile.proofs.typing.names_are_tied.Goals as goal

pub returns : goal.returns
returns c = names_are_tied
