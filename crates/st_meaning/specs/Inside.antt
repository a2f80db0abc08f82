-- The fields of a chart as numbers.
use Rattle.std.specs.Prelude.{◌≡◌, ◌<◌, length}
use Rattle.std.specs.List.{All}
use Rattle.st_charts.specs.Passages.{passages_of}
use Rattle.st_meaning.specs.Counts.{ArePlaces}
use Rattle.st_meaning.specs.Views.{SketchView}
use Rattle.st_meaning.specs.declared.sketch.Sketch.TheInside.{Inside}

abbrev pub view_of : Inside → SketchView
view_of sketch = record {
  pulses = sketch.pulses.items;
  passages = passages_of sketch.table.transitions.items;
  links = sketch.table.links.items;
  variables = sketch.variables.items;
  stored = sketch.stored.items;
  actions = sketch.actions.items;
}

-- the table is of these steps and names, the names that are stored are among them, and the places are those of the steps
pub record IsSketch (sketch : Inside) : Type 0 where
  pub steps : sketch.table.steps ≡ length sketch.pulses.items
  pub names : sketch.table.names ≡ length sketch.variables.items
  pub stored : All (λ n. n < length sketch.variables.items) sketch.stored.items
  pub places : ArePlaces sketch.offsets sketch.pulses.items
