use Rattle.st_meaning.proofs.CalledAlone.{called_functions_matter_alone}
use Rattle.st_meaning.proofs.laws.called_functions_matter_alone.Goals as goal

pub returns : goal.returns
returns c = called_functions_matter_alone
