use Rattle.st_code.proofs.Entrances.{code_enters_what_is_invoked}
use Rattle.st_code.proofs.laws.code_enters_what_is_invoked.Goals as goal

pub returns : goal.returns
returns c = code_enters_what_is_invoked
