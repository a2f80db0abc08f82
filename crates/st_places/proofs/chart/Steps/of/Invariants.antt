use Rattle.std.proofs.Common.{take}
use Rattle.std.specs.List.{flat_map}
use Rattle.st_types.specs.Names.{steps_in}
use Rattle.st_places.specs.Charts.{HasSteps}
use Rattle.st_places.proofs.chart.Steps.of.Given as goal

-- the steps of the elements so far
abbrev pub invariant-elements : goal.invariant-elements
invariant-elements l = HasSteps (flat_map steps_in (take l.element-index l.elements)) l.steps
