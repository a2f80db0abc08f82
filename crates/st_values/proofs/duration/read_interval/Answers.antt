use Rattle.std.proofs.Common.{rules}
use Rattle.st_values.specs.Durations.{interval_read}
use Rattle.st_values.proofs.duration.read_interval.Goals as goal

pub returns-clause-value : goal.returns-clause-value
unfolding interval_read
returns-clause-value c = search rules
