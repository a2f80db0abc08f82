use Rattle.st_code.proofs.TypedInvocations.{typing_enters_instances}
use Rattle.st_code.proofs.laws.typing_enters_instances.Goals as goal

pub returns : goal.returns
returns c = typing_enters_instances
