use Rattle.st_control.proofs.Pulses.{pulses_name_their_steps}
use Rattle.st_control.proofs.laws.pulses_name_their_steps.Goals as goal

pub returns : goal.returns
returns c = pulses_name_their_steps
