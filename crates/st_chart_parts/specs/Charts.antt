-- What of charts has leaves (2.6).
use Rattle.std.specs.Prelude.{ℕ, Bool, true, false, List, [], if◌then◌else◌}
use Rattle.std.specs.List.{flat_map}
use Rattle.st_tree.specs.declared.tree.unit.ChartElement.{ChartElement}
use Rattle.st_tree.specs.declared.tree.unit.Step.{Step}
use Rattle.st_types.specs.Names.{Declares, chart_in, steps_in}
use Rattle.st_leaves.specs.Charts.{stored_of}
use Rattle.st_leaves.specs.LeavesIn.{LeafIn, whole_chart_in}

-- the steps of a chart, in order, and the names that it stores, as they are declared
pub record ChartView : Type 0 where
  -- whether there is a chart
  pub is_there : Bool
  pub steps : List Step
  pub stored : List (List ℕ)

-- without elements there is no chart
abbrev pub has_any : List ChartElement → Bool
has_any [] = false
has_any elements = true

-- of a chart that stores these names
abbrev pub parts_in : List (List ℕ) → List ChartElement → ChartView
parts_in stored elements = record { is_there = has_any elements; steps = flat_map steps_in elements; stored = stored }

-- of the chart of a unit
abbrev pub parts_of : Declares → ChartView
parts_of unit = parts_in (stored_of unit) (chart_in unit)

-- the leaves that these are, in a unit of this name
abbrev pub leaves_of_parts : List ℕ → ChartView → List LeafIn
leaves_of_parts name chart = if chart.is_there then whole_chart_in name chart.stored chart.steps else []
