use Rattle.st_blocks.proofs.TimeLemmas.{times_are_within}
use Rattle.st_blocks.proofs.laws.times_stay_within_preset.Goals as goal

pub returns : goal.returns
returns c = times_are_within
