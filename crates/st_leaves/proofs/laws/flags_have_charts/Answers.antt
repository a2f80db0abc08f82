use Rattle.st_leaves.proofs.FlagCharts.{wholes_have_charts}
use Rattle.st_leaves.proofs.ToldFlags.{wholes_tell_flags}
use Rattle.st_leaves.proofs.laws.flags_have_charts.Goals as goal

pub returns-clause-charts : goal.returns-clause-charts
returns-clause-charts c = wholes_have_charts

pub returns-clause-flags : goal.returns-clause-flags
returns-clause-flags c = wholes_tell_flags
