use Rattle.st_compile.proofs.TypedUnits.{checked_programs_are_typed}
use Rattle.st_compile.proofs.typing.checked_programs_are_typed.Goals as goal

pub returns : goal.returns
returns c = checked_programs_are_typed
