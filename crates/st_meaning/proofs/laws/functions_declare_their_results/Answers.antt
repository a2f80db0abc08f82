use Rattle.st_meaning.proofs.BegunFunctions.{functions_declare_their_results}
use Rattle.st_meaning.proofs.laws.functions_declare_their_results.Goals as goal

pub returns : goal.returns
returns c = functions_declare_their_results
