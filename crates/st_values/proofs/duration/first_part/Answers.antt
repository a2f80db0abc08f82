use Rattle.std.proofs.Common.{rules}
use Rattle.std.proofs.lemmas.List.Folds.{length-prefix_len}
use Rattle.st_values.proofs.duration.first_part.Goals as goal

pub returns-clause-letters : goal.returns-clause-letters
returns-clause-letters c = simp length-prefix_len (search rules)

pub returns-clause-rest : goal.returns-clause-rest
returns-clause-rest c = simp length-prefix_len (search rules)
