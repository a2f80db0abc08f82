use Rattle.std.specs.Prelude.{false, []}
use Rattle.st_check_statements.specs.Statements.{around}
use Rattle.st_compile.proofs.Statements.{body_strict}
use Rattle.st_compile.proofs.typing.bodies_are_strict.Goals as goal

pub returns : goal.returns
returns c = λ scope w body ties h. body_strict scope w ties body (around false []) h
