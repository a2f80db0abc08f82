use Rattle.st_compile.proofs.Initials.{initials_are_strict}
use Rattle.st_compile.proofs.typing.initials_are_strict.Goals as goal

pub returns : goal.returns
returns c = initials_are_strict
