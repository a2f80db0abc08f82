use Rattle.st_meaning.proofs.TermValues.{terms_give_values}
use Rattle.st_meaning.proofs.laws.terms_give_values.Goals as goal

pub returns : goal.returns
returns c = terms_give_values
