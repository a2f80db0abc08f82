use Rattle.std.proofs.Common.{◌≡◌, take}
use Rattle.std.specs.List.{flat_map}
use Rattle.st_scopes.specs.Charts.{action_names, step_names}
use Rattle.st_types.specs.Names.{actions_in, steps_in}
use Rattle.st_scopes.proofs.chart.ChartNames.of_elements.Given as goal

-- the names of the elements so far
abbrev pub invariant-loop-element : goal.invariant-loop-element
invariant-loop-element l = record {
  steps : l.names.steps ≡ step_names (flat_map steps_in (take l.element-index l.elements));
  actions : l.names.actions ≡ action_names (flat_map actions_in (take l.element-index l.elements));
}
