use Rattle.std.proofs.lemmas.Int.{quot-rem}
use Rattle.st_operators.proofs.laws.division_leaves_its_remainder.Goals as goal

pub returns-clause-dividend : goal.returns-clause-dividend
returns-clause-dividend c = quot-rem
