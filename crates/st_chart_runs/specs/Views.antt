-- Workspaces, and charts among the values of leaves.
use Rattle.std.specs.Prelude.{ℕ, ◌-◌, ◌^◌, ◌≤◌, min, ℤ, Bool, List, ◌∷◌, ◌++◌, length}
use Rattle.std.specs.List.{AllZip}
use Rattle.st_values.specs.declared.elem.Elem.{Elem}
use Rattle.st_values.specs.declared.elem.Elem.TheVariants as elems
use Rattle.st_values.specs.Values.{IsOfType}
use Rattle.st_meaning.specs.Meaning.{Values}
use Rattle.st_meaning.specs.Sketches.{flags_types, steps_types}
use Rattle.st_meaning.specs.Statements.{Setting, stretch}
use Rattle.st_meaning.specs.Views.{SketchView}
use Rattle.st_chart_runs.specs.declared.workspace.ChartRoom.{ChartRoom}

-- ---- workspaces

-- for how many steps, transitions and leaves there is room, and whether names are on
pub record WorkspaceView : Type 0 where
  pub steps : ℕ
  pub transitions : ℕ
  pub leaves : ℕ
  pub on : List Bool

abbrev pub room_of : WorkspaceView → ChartRoom
room_of w = record { steps = w.steps; names = length w.on; transitions = w.transitions; leaves = w.leaves }

-- the types of the leaves of a chart
abbrev pub types_of : SketchView → List Elem
types_of view = elems.Bool ∷ (steps_types view.pulses ++ flags_types view.stored)

-- there is room for the chart, as far as numbers go
pub record HasRoom (room : ChartRoom) (view : SketchView) : Type 0 where
  pub steps : length view.pulses ≤ room.steps
  pub names : length view.variables ≤ room.names
  pub transitions : length view.passages ≤ room.transitions
  pub leaves : min (length (types_of view)) (2 ^ 64 - 1) ≤ room.leaves

-- ---- leaves

-- the leaves of the chart stand from this one on, and have values of their types
abbrev pub StandsAt : SketchView → ℕ → Values → Type 0
StandsAt view leaf values = AllZip IsOfType (types_of view) (stretch values leaf (length (types_of view)))

-- a run at this moment, where these leaves are forced
abbrev pub setting_at : ℤ → List Bool → Setting
setting_at moment marks = record { now = moment; forced = marks }
