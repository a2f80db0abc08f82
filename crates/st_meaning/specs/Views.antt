-- Charts (2.6) as the numbers that the machine runs.
use Rattle.std.specs.Option.{is_some}
use Rattle.std.specs.Prelude.{◌≡◌, ℕ, ◌+◌, Bool, List, [], length, map, take}
use Rattle.st_tree.specs.declared.tree.unit.ChartElement.{ChartElement}
use Rattle.st_leaves.specs.Charts.{associated_names, associations_in}
use Rattle.st_charts.specs.Passages.{Passage}
use Rattle.st_charts.specs.declared.table.Link.{Link}
use Rattle.st_meaning.specs.Sketches.{Sketch, steps_types}

-- the names that the steps among these elements are associated with, each once, in the order of the first association
abbrev pub names_of : List ChartElement → List (List ℕ)
names_of elements = associated_names (associations_in elements)

-- A chart as numbers, without the names of variables: of these the machine knows the leaves.
pub record SketchView : Type 0 where
  -- of each step whether it is associated with the qualifier P
  pub pulses : List Bool
  -- the transitions
  pub passages : List Passage
  -- the associations
  pub links : List Link
  -- of each associated name whether it is a BOOL variable
  pub variables : List Bool
  -- those of the associated names that some association has with the qualifier S, in their order
  pub stored : List ℕ
  -- the name of each action
  pub actions : List ℕ

-- The numbers are those of this chart.
pub record IsOf (view : SketchView) (sketch : Sketch) : Type 0 where
  pub pulses : view.pulses ≡ sketch.pulses
  pub passages : view.passages ≡ sketch.passages
  pub links : view.links ≡ sketch.links
  pub variables : view.variables ≡ map is_some sketch.variables
  pub stored : view.stored ≡ sketch.stored
  pub actions : view.actions ≡ sketch.actions

-- how many leaves behind the one that says whether the chart has begun those of a step begin: behind those of the steps before it
abbrev pub step_place : List Bool → ℕ → ℕ
step_place pulses s = 1 + length (steps_types (take s pulses))

-- how many leaves behind that one the flags of the names begin that are stored: behind those of all steps
abbrev pub flags_place : List Bool → ℕ
flags_place pulses = 1 + length (steps_types pulses)
