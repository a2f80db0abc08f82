use Rattle.st_compile.proofs.TypedUnits.{typings_are_one}
use Rattle.st_compile.proofs.typing.typings_are_one.Goals as goal

pub returns : goal.returns
returns c = typings_are_one
