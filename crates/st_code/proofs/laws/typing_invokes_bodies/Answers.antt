use Rattle.st_code.proofs.TypedInvocations.{typing_invokes_bodies}
use Rattle.st_code.proofs.laws.typing_invokes_bodies.Goals as goal

pub returns : goal.returns
returns c = typing_invokes_bodies
