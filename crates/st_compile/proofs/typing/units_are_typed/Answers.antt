use Rattle.st_compile.proofs.TypedUnits.{units_are_typed}
use Rattle.st_compile.proofs.typing.units_are_typed.Goals as goal

pub returns : goal.returns
returns c = units_are_typed
