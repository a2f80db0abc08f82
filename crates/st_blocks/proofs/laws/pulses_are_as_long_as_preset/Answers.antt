use Rattle.st_blocks.proofs.PulseLemmas.{pulses_are_kept, pulses_end}
use Rattle.st_blocks.proofs.laws.pulses_are_as_long_as_preset.Goals as goal

pub returns-clause-kept : goal.returns-clause-kept
returns-clause-kept c = pulses_are_kept

pub returns-clause-end : goal.returns-clause-end
returns-clause-end c = pulses_end
