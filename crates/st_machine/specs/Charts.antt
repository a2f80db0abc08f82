-- The charts of a text, by the numbers of the units, and which of them code is about.
use Rattle.std.specs.Option.{is_some}
use Rattle.std.specs.Prelude.{◌≡◌, ◌≢◌, ℕ, ◌+◌, Bool, true, false, ℤ, List, [], ◌∷◌, drop, get_or, IsTrue, Option, Some}
use Rattle.std.specs.List.{All}
use Rattle.st_memory.specs.Memory.{Content}
use Rattle.st_meaning.specs.Sketches.{Sketch}
use Rattle.st_meaning.specs.Views.{IsOf, SketchView}
use Rattle.st_chart_runs.specs.Charts.{ChartsFit, chart_at}
use Rattle.st_chart_runs.specs.declared.workspace.ChartRoom.{ChartRoom}
use Rattle.st_code.specs.Charts.{ChartTest, ChartsWhere}
use Rattle.st_code.specs.Code.{Line}
use Rattle.st_code.specs.Machine.{Environment, act, goes, state, stuck}
use Rattle.st_code.specs.declared.instr.Instr.{Instr}
use Rattle.st_code.specs.Fused.{is_of_chart}
use Rattle.st_chart_runs.specs.Views.{setting_at}

-- the chart of the unit is known
abbrev pub is_known : List (Option SketchView) → ChartTest
is_known charts unit = is_some (chart_at charts unit)

-- the code is about charts that are known
abbrev pub ChartsAmong : List (Option SketchView) → List Line → Type 0
ChartsAmong charts code = All (λ l. ChartsWhere (is_known charts) l.instr) code

-- each is the one that is said
abbrev pub AreCharts : List (Option SketchView) → (ℕ → Sketch) → Type 0
AreCharts charts sketches = (unit : ℕ) (view : SketchView) → chart_at charts unit ≡ Some view → IsOf view (sketches unit)

-- whether those of the names are on that are variables
abbrev pub on_among : (variables on : List Bool) → List Bool
on_among [] on = []
on_among (true ∷ variables) on = get_or on 0 false ∷ on_among variables (drop 1 on)
on_among (false ∷ variables) on = on_among variables (drop 1 on)

-- An instruction about a chart, on the way of a run: its chart is known, there is room for it, and the machine isn't stuck there.
pub record ChartWork (i : Instr) (charts : List (Option SketchView)) (room : ChartRoom) (moment : ℤ) (content : Content) (stack : List ℤ × ℕ) : Type 0 where
  pub env : Environment
  pub setting : env.setting ≡ setting_at moment content.forced
  pub about : IsTrue (is_of_chart i)
  pub are : AreCharts charts env.charts
  pub known : ChartsWhere (is_known charts) i
  pub fit : ChartsFit charts room
  pub line : ℕ
  pub place : ℕ
  pub left : ℕ
  pub free : act env stack.1 i line place stack.0 content.values left ≢ stuck

-- whichever run that is, the instruction leads to the next one, and leaves this content and this stack
abbrev pub ChartWorkLeaves : Instr → List (Option SketchView) → ChartRoom → (moment : ℤ) → Content → List ℤ × ℕ → Content → List ℤ × ℕ → Type 0
ChartWorkLeaves i charts room moment content stack new others = (work : ChartWork i charts room moment content stack)
    → act work.env stack.1 i work.line work.place stack.0 content.values work.left ≡ goes (state (work.place + 1) others.0 new.values work.left)
