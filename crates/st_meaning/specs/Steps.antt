-- The steps of a chart, of which expressions can tell whether they are active, and for how long (2.6.2).
use Rattle.std.specs.Prelude.{ℕ, Bool, true, false, List, [], ◌∷◌, codes}
use Rattle.std.specs.List.{flat_map, list_any}
use Rattle.st_values.specs.Words.{is_word}
use Rattle.st_values.specs.declared.elem.Elem.{Elem}
use Rattle.st_values.specs.declared.elem.Elem.TheVariants as elems
use Rattle.st_tree.specs.declared.tree.unit.ChartElement.{ChartElement}
use Rattle.st_tree.specs.declared.tree.unit.Step.{Step}
use Rattle.st_types.specs.Compositions.{Composition, composed}
use Rattle.st_types.specs.Names.{steps_in}
use Rattle.st_leaves.specs.Paths.{Path, field}

-- the elements of the chart that variables end with
abbrev pub chart_within : Composition → List ChartElement
chart_within (composed name ms chart) = chart
chart_within _ = []

abbrev pub steps_within : Composition → List Step
steps_within root = flat_map steps_in (chart_within root)

abbrev pub has_step : Composition → List ℕ → Bool
has_step root name = list_any (λ s. is_word s.name.spelling name) (steps_within root)

-- for how long it has been active, where the first is TRUE, else whether it is
abbrev pub step_elem : Bool → Elem
step_elem true = elems.Time
step_elem false = elems.Bool

abbrev pub step_path : Bool → List ℕ → Path
step_path true name = field name ∷ field (codes "T") ∷ []
step_path false name = field name ∷ field (codes "X") ∷ []
