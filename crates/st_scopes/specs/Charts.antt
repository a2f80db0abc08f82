-- The names in charts, as tables hold them.
use Rattle.std.specs.Prelude.{ℕ, List, map}
use Rattle.std.specs.List.{flat_map}
use Rattle.st_tree.specs.declared.tree.unit.Action.{Action}
use Rattle.st_tree.specs.declared.tree.unit.ChartElement.{ChartElement}
use Rattle.st_tree.specs.declared.tree.unit.Step.{Step}
use Rattle.st_types.specs.Names.{Declares, actions_in, chart_in, steps_in}
use Rattle.st_scopes.specs.declared.chart.ChartNames.{ChartNames}

abbrev pub step_names : List Step → List (List ℕ)
step_names steps = map (λ s. s.name.spelling) steps

abbrev pub action_names : List Action → List (List ℕ)
action_names actions = map (λ a. a.name.spelling) actions

-- of a chart with these elements
abbrev pub element_names : List ChartElement → ChartNames
element_names elements = record { steps = step_names (flat_map steps_in elements); actions = action_names (flat_map actions_in elements) }

-- of a unit's chart
abbrev pub chart_names : Declares → ChartNames
chart_names unit = element_names (chart_in unit)
