-- The numbers in what a chart is without names (2.6) are those of its steps and names.
use Rattle.std.specs.Prelude.{◌<◌, List, length}
use Rattle.std.specs.List.{All}
use Rattle.st_tree.specs.declared.tree.unit.ChartElement.{ChartElement}
use Rattle.st_types.specs.Compositions.{Composition}
use Rattle.st_meaning.specs.Sketched.{sketch_of}
use Rattle.st_meaning.specs.Sketches.{Sketch}

-- all numbers of steps and of associated names are those of some
pub record IsInRange (sketch : Sketch) : Type 0 where
  pub before : All (λ t. All (λ s. s < length sketch.pulses) t.before) sketch.passages
  pub after : All (λ t. All (λ s. s < length sketch.pulses) t.after) sketch.passages
  pub linked : All (λ link. link.step < length sketch.pulses) sketch.links
  pub named : All (λ link. link.name < length sketch.variables) sketch.links

-- whatever the elements of a chart name
abbrev pub SketchesAreInRange : Type 0
SketchesAreInRange = (root : Composition) (elements : List ChartElement) → IsInRange (sketch_of root elements)
