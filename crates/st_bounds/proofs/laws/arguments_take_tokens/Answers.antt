use Rattle.st_bounds.proofs.Fitting.{arguments_counted}
use Rattle.st_bounds.proofs.laws.arguments_take_tokens.Goals as goal

pub returns : goal.returns
returns c = arguments_counted
