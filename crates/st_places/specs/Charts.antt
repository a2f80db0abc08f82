-- The charts of units, with where the leaves of their steps stand (2.6).
use Rattle.std.specs.Prelude.{◌≡◌, ℕ, ◌+◌, Bool, List, [], ◌∷◌, Option, Some, None, min, if◌then◌else◌}
use Rattle.std.specs.List.{flat_map}
use Rattle.st_tree.specs.declared.tree.unit.ChartElement.{ChartElement}
use Rattle.st_tree.specs.declared.tree.unit.Step.{Step}
use Rattle.st_types.specs.Compositions.{Composition}
use Rattle.st_types.specs.Names.{steps_in}
use Rattle.st_scopes.specs.Charts.{step_names}
use Rattle.st_leaves.specs.Places.{step_count, steps_count}
use Rattle.st_meaning.specs.Offsets.{step_leaf}
use Rattle.st_meaning.specs.Steps.{has_step}
use Rattle.st_places.specs.declared.chart.Chart.{Chart}
use Rattle.st_places.specs.declared.chart.Steps.{Steps}

-- how far behind the first leaf of a chart those of each of these steps begin, where those of the first begin so far behind it
abbrev pub offsets_from : ℕ → List Step → List ℕ
offsets_from next [] = []
offsets_from next (s ∷ steps) = min next 1000000 ∷ offsets_from (next + step_count s) steps

-- of these steps
pub record HasSteps (steps : List Step) (all : Steps) : Type 0 where
  pub names : all.names ≡ step_names steps
  pub offsets : all.offsets ≡ offsets_from 1 steps
  pub next : all.next ≡ min (1 + steps_count steps) 1000000

-- of the chart of these elements
pub record HasElements (es : List ChartElement) (chart : Chart) : Type 0 where
  pub elements : chart.elements.now ≡ es
  pub steps : HasSteps (flat_map steps_in es) chart.steps

-- the leaf that says of a step for how long it has been active, where this is TRUE, else whether it is, if there is a step of this name
abbrev pub leaf_of_step : Composition → Bool → List ℕ → Option ℕ
leaf_of_step root is_time name = if has_step root name then Some (step_leaf root is_time name) else None
