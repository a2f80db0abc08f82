-- What of charts has leaves, in code.
use Rattle.std.specs.Prelude.{◌≡◌}
use Rattle.std.specs.List.{list_any}
use Rattle.st_tree.specs.declared.tree.unit.Step.{Step}
use Rattle.st_leaves.specs.Charts.{is_pulse, spelled}
use Rattle.st_chart_parts.specs.Charts.{ChartView}
use Rattle.st_chart_parts.specs.declared.parts.ChartParts.TheInside as charts
use Rattle.st_chart_parts.specs.declared.step.StepPart.TheInside as steps

abbrev pub chart_seen : charts.Inside → ChartView
chart_seen chart = record { is_there = chart.is_there; steps = chart.steps.items; stored = spelled chart.stored.items }

-- the step, as it is written
abbrev pub step_seen : steps.Inside → Step
step_seen part = part.step.now

abbrev pub KnowsPulses : steps.Inside → Type 0
KnowsPulses part = part.has_pulse ≡ list_any is_pulse part.step.now.associations
