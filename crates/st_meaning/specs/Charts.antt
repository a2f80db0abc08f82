-- What a chart keeps of itself (2.6), and what one invocation makes of it: over the values of the leaves of the chart alone.
use Rattle.std.specs.Prelude.{ℕ, ◌+◌, ℤ, Bool, true, false, ◌&&◌, List, [], ◌∷◌, ◌++◌, drop, get_or, length, map, set, Option, Some, None}
use Rattle.st_values.specs.declared.elem.Elem.TheVariants as elems
use Rattle.st_types.specs.Compositions.{Composition}
use Rattle.st_values.specs.Values.{truth}
use Rattle.st_leaves.specs.Paths.{field}
use Rattle.st_blocks.specs.Cells.{flag_at, number_at, of_type}
use Rattle.st_charts.specs.Charts.{active_in, is_enabled, no_step, timed}
use Rattle.st_charts.specs.Outcomes.{Outcome, invoked}
use Rattle.st_charts.specs.declared.step.StepCell.{StepCell}
use Rattle.st_meaning.specs.Meaning.{Values, stored_at}
use Rattle.st_leaves.specs.Charts.{step_types}
use Rattle.st_meaning.specs.Sketches.{Sketch, steps_types}

-- whether it has begun, its steps, and the stored flags of all its names, which are FALSE where they are never stored
pub record ChartState : Type 0 where
  pub begun : Bool
  pub steps : List StepCell
  pub flags : List Bool

-- ---- from the values of its leaves

-- a step, whose first leaf is the first of these, and which has pulses where this is TRUE
abbrev pub cell_in : Bool → Values → StepCell
cell_in has_pulse cells = record {
  active = flag_at cells 0;
  elapsed = number_at cells 1;
  since = number_at cells 2;
  pulsed = has_pulse && flag_at cells 3;
}

abbrev pub cells_in : List Bool → Values → List StepCell
cells_in [] cells = []
cells_in (p ∷ pulses) cells = cell_in p cells ∷ cells_in pulses (drop (length (step_types p)) cells)

-- the flags of names, of which these are stored, and have the values
abbrev pub flags_from : List ℕ → Values → List Bool → List Bool
flags_from [] cells flags = flags
flags_from (n ∷ stored) cells flags = flags_from stored (drop 1 cells) (set flags n (flag_at cells 0))

abbrev pub state_in : Sketch → Values → ChartState
state_in sketch cells = record {
  begun = flag_at cells 0;
  steps = cells_in sketch.pulses (drop 1 cells);
  flags = flags_from sketch.stored (drop (1 + length (steps_types sketch.pulses)) cells) (map (λ name. false) sketch.variables);
}

-- ---- to the values of its leaves

abbrev pub step_values : Bool → StepCell → Values
step_values true c = truth c.active ∷ of_type elems.Time c.elapsed ∷ of_type elems.Time c.since ∷ truth c.pulsed ∷ []
step_values false c = truth c.active ∷ of_type elems.Time c.elapsed ∷ of_type elems.Time c.since ∷ []

abbrev pub steps_values : List Bool → List StepCell → Values
steps_values [] cells = []
steps_values (p ∷ pulses) [] = step_values p no_step ++ steps_values pulses []
steps_values (p ∷ pulses) (c ∷ cells) = step_values p c ++ steps_values pulses cells

abbrev pub flags_values : List ℕ → List Bool → Values
flags_values stored flags = map (λ n. truth (get_or flags n false)) stored

abbrev pub state_values : Sketch → ChartState → Values
state_values sketch s = truth s.begun ∷ (steps_values sketch.pulses s.steps ++ flags_values sketch.stored s.flags)

-- ---- one invocation, at a moment

-- the times of the active steps
abbrev pub times_set : Sketch → ℤ → Values → Values
times_set sketch now cells =
    let s = state_in sketch cells in state_values sketch (record { begun = s.begun; steps = map (timed s.begun now) s.steps; flags = s.flags })

-- The condition of a transition is asked where the chart has begun and all steps before the transition are active.
abbrev pub is_asked : Sketch → Values → ℕ → Bool
is_asked sketch cells t = let s = state_in sketch cells in s.begun && is_enabled sketch.passages (active_in s.steps) t

-- what follows of the conditions
abbrev pub outcome_of : Sketch → List Bool → ℤ → Values → Outcome
outcome_of sketch conditions now cells =
    let s = state_in sketch cells in invoked sketch.passages sketch.links s.begun s.steps s.flags conditions now

-- what is left in the leaves
abbrev pub moved_on : Sketch → List Bool → ℤ → Values → Values
moved_on sketch conditions now cells =
    let o = outcome_of sketch conditions now cells in state_values sketch (record { begun = true; steps = o.steps; flags = o.flags })

-- which names are on
abbrev pub names_on : Sketch → List Bool → ℤ → Values → List Bool
names_on sketch conditions now cells = (outcome_of sketch conditions now cells).on

-- ---- names

-- which actions are on
abbrev pub actions_on : Sketch → List Bool → List Bool
actions_on sketch on = map (λ n. get_or on n false) sketch.actions

-- which of the names that are variables are on
abbrev pub variables_on : List (Option (List ℕ)) → List Bool → List Bool
variables_on [] on = []
variables_on (None ∷ names) on = variables_on names (drop 1 on)
variables_on (Some name ∷ names) on = get_or on 0 false ∷ variables_on names (drop 1 on)

-- each of them is stored, one after the other
abbrev pub names_stored : Composition → List Bool → List (Option (List ℕ)) → List Bool → Values → Values
names_stored root forced [] on values = values
names_stored root forced (None ∷ names) on values = names_stored root forced names (drop 1 on) values
names_stored root forced (Some name ∷ names) on values =
    names_stored root forced names (drop 1 on) (stored_at root forced values (field name ∷ []) (truth (get_or on 0 false)))
