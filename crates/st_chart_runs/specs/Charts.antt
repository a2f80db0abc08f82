-- Charts by the numbers of units.
use Rattle.std.specs.Prelude.{◌≡◌, ◌≤◌, ℕ, List, get_or, Option, Some, None}
use Rattle.st_meaning.specs.Views.{SketchView}
use Rattle.st_chart_runs.specs.Views.{HasRoom}
use Rattle.st_chart_runs.specs.declared.workspace.ChartRoom.{ChartRoom}

-- the chart of a unit, where it is known
abbrev pub chart_at : List (Option SketchView) → ℕ → Option SketchView
chart_at charts unit = get_or charts unit None

-- there is room for each of them
abbrev pub ChartsFit : List (Option SketchView) → ChartRoom → Type 0
ChartsFit charts room = (unit : ℕ) (view : SketchView) → chart_at charts unit ≡ Some view → HasRoom room view

-- no part of the one is larger than that of the other
pub record IsWithin (room other : ChartRoom) : Type 0 where
  pub steps : room.steps ≤ other.steps
  pub names : room.names ≤ other.names
  pub transitions : room.transitions ≤ other.transitions
  pub leaves : room.leaves ≤ other.leaves

-- there is room for each of them, and no more than whatever has room for each of them has
pub record IsRoomFor (charts : List (Option SketchView)) (room : ChartRoom) : Type 0 where
  pub fit : ChartsFit charts room
  pub least : (other : ChartRoom) → ChartsFit charts other → IsWithin room other
