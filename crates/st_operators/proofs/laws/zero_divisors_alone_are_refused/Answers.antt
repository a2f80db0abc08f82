use Rattle.st_operators.proofs.Results.{refused}
use Rattle.st_operators.proofs.laws.zero_divisors_alone_are_refused.Goals as goal

pub returns : goal.returns
returns c = refused
