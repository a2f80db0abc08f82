use Rattle.st_compile.proofs.Expressions.{expression_fits}
use Rattle.st_compile.proofs.typing.own_types_are_the_same.Goals as goal

pub returns : goal.returns
returns c = λ scope w x at e ties h. (expression_fits scope w ties x at e h).own
