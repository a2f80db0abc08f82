-- The charts of units: as the bodies that they are, and as the numbers that a machine runs.
use Rattle.std.proofs.Common.{◌≡◌, ℕ, ◌==◌, Bool, true, false, ◌||◌, if◌then◌else◌, List, [], ◌∷◌, map, Option, Some, None, refl, ap, sym, ◌∙◌, subst}
use Rattle.std.specs.Option.{is_some}
use Rattle.st_check.specs.Programs.{ProgramView, main_of, text_of}
use Rattle.st_tree.specs.declared.tree.statement.Statement.{Statement}
use Rattle.st_tree.specs.declared.tree.unit.ChartElement.{ChartElement}
use Rattle.st_tree.specs.declared.tree.unit.Function.{Function}
use Rattle.st_types.specs.Names.{Named, chart_in, unit_at, units_of}
use Rattle.st_types.specs.Names as names
use Rattle.st_charts.specs.Passages.{Passage}
use Rattle.st_charts.specs.declared.table.Link.{Link}
use Rattle.st_meaning.specs.Sketched.{sketch_of}
use Rattle.st_meaning.specs.Sketches.{Sketch}
use Rattle.st_meaning.specs.Steps.{chart_within}
use Rattle.st_meaning.specs.Terms.{Body, Commands, plain_body, chart_body}
use Rattle.st_meaning.specs.Typing.{body_in, body_of, chart_or}
use Rattle.st_meaning.specs.Units.{body_of_unit, statements_of, unit_whole}
use Rattle.st_meaning.specs.Wholes.{Whole}
use Rattle.st_meaning.specs.Views.{IsOf, SketchView}
use Rattle.st_chart_runs.specs.Charts.{chart_at}
use Rattle.st_code.specs.Charts.{ChartTest, IsChartWhere}
use Rattle.st_code.specs.Correct.{HasItsChart}
use Rattle.st_machine.specs.Charts.{AreCharts, is_known}
use Rattle.st_places.specs.Parts.{is_small_block}
use Rattle.st_places.proofs.Roots.{charts_are_in_bodies}
use Rattle.st_compile.specs.Programs.{chart_view, made_of, program_charts, sketch_view, unit_chart}
use Rattle.st_compile.proofs.Ordered.{got_at}

-- ---- the body of a unit is its chart, whichever its statements are, or else these

module _ (w : Whole) (n : ℕ) where
  abbrev or_chart : List Statement → List ChartElement → Body
  or_chart statements elements = chart_or (body_of w statements) w n elements

  chart_alone : (some others : List Statement) (elements : List ChartElement) → chart_view (or_chart some elements) ≡ chart_view (or_chart others elements)
  chart_alone some others [] = refl
  chart_alone some others (e ∷ elements) = refl

  pub whichever_statements : (some others : List Statement) → chart_view (body_in w n some) ≡ chart_view (body_in w n others)
  whichever_statements some others = chart_alone some others (chart_within w.variables)

-- no function is a chart
pub function_body_is : (units : List Named) (n : ℕ) (u : Named) (f : Function) → u.declares ≡ names.function f → body_of_unit units n u ≡ plain_body (body_of (unit_whole units u) (statements_of u.declares))
unfolding unit_whole
function_body_is units n u f is = ap (chart_or (body_of (unit_whole units u) (statements_of u.declares)) (unit_whole units u) n) (charts_are_in_bodies units u ∙ ap chart_in is)

-- ---- the numbers of a chart

abbrev viewed : List Bool → List Passage → List Link → List Bool → List ℕ → List ℕ → SketchView
viewed pulses passages links variables stored actions =
    record { pulses = pulses; passages = passages; links = links; variables = variables; stored = stored; actions = actions }

same_view : (view : SketchView) (sketch : Sketch) → IsOf view sketch → view ≡ sketch_view sketch
same_view view sketch is =
    ap (λ xs. viewed xs view.passages view.links view.variables view.stored view.actions) is.pulses
    ∙ ap (λ xs. viewed sketch.pulses xs view.links view.variables view.stored view.actions) is.passages
    ∙ ap (λ xs. viewed sketch.pulses sketch.passages xs view.variables view.stored view.actions) is.links
    ∙ ap (λ xs. viewed sketch.pulses sketch.passages sketch.links xs view.stored view.actions) is.variables
    ∙ ap (λ xs. viewed sketch.pulses sketch.passages sketch.links (map is_some sketch.variables) xs view.actions) is.stored
    ∙ ap (viewed sketch.pulses sketch.passages sketch.links (map is_some sketch.variables) sketch.stored) is.actions

some_chart : (w : Whole) (n : ℕ) (elements : List ChartElement) → (elements ≡ [] → ⊥) → Some (sketch_view (sketch_of w.variables elements)) ≡ chart_view (or_chart w n [] elements)
some_chart w n [] not_none = absurd (not_none refl)
some_chart w n (e ∷ elements) not_none = refl

pub chart_made : (w : Whole) (n : ℕ) (elements : List ChartElement) → elements ≡ chart_within w.variables → (elements ≡ [] → ⊥) → (view : SketchView) → IsOf view (sketch_of w.variables elements)
    → Some view ≡ chart_view (body_in w n [])
chart_made w n elements are not_none view is =
    ap Some (same_view view (sketch_of w.variables elements) is) ∙ some_chart w n elements not_none ∙ ap (λ es. chart_view (or_chart w n [] es)) are

-- ---- what is said of charts

-- a unit without one is said to have this
abbrev pub no_sketch : Sketch
no_sketch = record { pulses = []; passages = []; links = []; variables = []; stored = []; actions = [] }

abbrev pub sketch_in : Body → Sketch
sketch_in (plain_body cs) = no_sketch
sketch_in (chart_body _ sketch _ _) = sketch

-- that of a unit, which has this number
abbrev pub unit_sketch : List Named → ℕ → Named → Sketch
unit_sketch units n u = sketch_in (body_of_unit units n u)

of_view : (body : Body) (view : SketchView) → chart_view body ≡ Some view → IsOf view (sketch_in body)
of_view (plain_body cs) view is = absurd cc
of_view (chart_body _ sketch _ _) view is =
    let same : sketch_view sketch ≡ view = cc in
    subst (λ v. IsOf v sketch) same (record { pulses = refl; passages = refl; links = refl; variables = refl; stored = refl; actions = refl })

its_chart : (charts : ℕ → Sketch) (w : Whole) (n : ℕ) (cs : Commands) (elements : List ChartElement) → charts n ≡ sketch_in (chart_or cs w n elements) → HasItsChart charts (chart_or cs w n elements)
its_chart charts w n cs [] is = tt
its_chart charts w n cs (e ∷ elements) is = is

charts_pass : (test : ChartTest) (w : Whole) (n : ℕ) (cs : Commands) (elements : List ChartElement) → test n ≡ is_some (chart_view (chart_or cs w n elements)) → IsChartWhere test (chart_or cs w n elements)
charts_pass test w n cs [] is = tt
charts_pass test w n cs (e ∷ elements) is = is

module _ (units : List Named) (n : ℕ) (u : Named) where
  -- it is that of the unit's own body
  pub has_its_chart : (charts : ℕ → Sketch) → charts n ≡ unit_sketch units n u → HasItsChart charts (body_of_unit units n u)
  has_its_chart charts is = its_chart charts (unit_whole units u) n (body_of (unit_whole units u) (statements_of u.declares)) (chart_within (unit_whole units u).variables) is

  pub is_chart_where : (test : ChartTest) → test n ≡ is_some (chart_view (body_of_unit units n u)) → IsChartWhere test (body_of_unit units n u)
  is_chart_where test is = charts_pass test (unit_whole units u) n (body_of (unit_whole units u) (statements_of u.declares)) (chart_within (unit_whole units u).variables) is

-- ---- the charts of a program

module _ (program : ProgramView) where
  abbrev units : List Named
  units = units_of (text_of program)

  abbrev make : ℕ → Named → Option SketchView
  make = unit_chart units (main_of program)

  charts_at : (n : ℕ) → chart_at (program_charts program) n ≡ made_of make None n (unit_at units n)
  unfolding program_charts
  charts_at n = got_at make None units n

  view_made : (body : Body) (view : SketchView) (b : Bool) → (if b then chart_view body else None) ≡ Some view → IsOf view (sketch_in body)
  view_made body view true is = of_view body view is
  view_made body view false is = absurd cc

  unit_view : (n : ℕ) (u : Option Named) (view : SketchView) → made_of make None n u ≡ Some view → IsOf view (made_of (unit_sketch units) no_sketch n u)
  unit_view n None view is = absurd cc
  unit_view n (Some u) view is = view_made (body_of_unit units n u) view (n == main_of program || is_small_block units u) is

  -- they are those of the units
  pub are_charts : AreCharts (program_charts program) (λ n. made_of (unit_sketch units) no_sketch n (unit_at units n))
  are_charts n view is = unit_view n (unit_at units n) view (sym (charts_at n) ∙ is)

  -- that of the main unit is known, and those of function blocks that the program has room for
  pub is_known_chart : (n : ℕ) (u : Named) → unit_at units n ≡ Some u → (n == main_of program || is_small_block units u) ≡ true
      → is_known (program_charts program) n ≡ is_some (chart_view (body_of_unit units n u))
  is_known_chart n u at runs =
      ap is_some (charts_at n ∙ ap (made_of make None n) at ∙ ap (λ b. if b then chart_view (body_of_unit units n u) else None) runs)
