use Rattle.st_operators.proofs.Results.{applied_is, complement_is, wrapped_is}
use Rattle.st_operators.proofs.laws.operators_give_values.Goals as goal

pub returns-clause-binary : goal.returns-clause-binary
returns-clause-binary c = applied_is

pub returns-clause-opposite : goal.returns-clause-opposite
returns-clause-opposite c = λ a. wrapped_is a.elem _

pub returns-clause-complement : goal.returns-clause-complement
returns-clause-complement c = complement_is
