use Rattle.st_compile.proofs.Statements.{command_strict}
use Rattle.st_compile.proofs.typing.statements_are_strict.Goals as goal

pub returns : goal.returns
returns c = λ scope w s a ties h. command_strict scope w ties s a h
