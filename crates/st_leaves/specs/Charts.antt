-- What a chart keeps of itself (2.6): leaves whose names can't be written in a program, but for the flag and the time of a step.
use Rattle.std.specs.Borrow.{Bor}
use Rattle.std.specs.Prelude.{ℕ, Bool, true, false, ◌&&◌, not, List, [], ◌∷◌, ◌++◌, codes, map, Option, Some, None, if◌then◌else◌}
use Rattle.std.specs.List.{filter, flat_map, list_any}
use Rattle.st_values.specs.Words.{is_word}
use Rattle.st_values.specs.declared.elem.Elem.{Elem}
use Rattle.st_values.specs.declared.elem.Elem.TheVariants as elems
use Rattle.st_tree.specs.declared.tree.unit.ActionQualifier.{ActionQualifier}
use Rattle.st_tree.specs.declared.tree.unit.Association.{Association}
use Rattle.st_tree.specs.declared.tree.unit.ChartElement.{ChartElement}
use Rattle.st_tree.specs.declared.tree.unit.Step.{Step}
use Rattle.st_tree.specs.Kinds.{is_constant}
use Rattle.st_types.specs.Names.{Declared, Declares, actions_in, chart_in, steps_in, variables_in}

-- a leaf below some part: the rest of its path as it is shown, and its type
pub record LeafBelow : Type 0 where
  pub path : List ℕ
  pub elem : Elem

-- below `.` and a name
abbrev pub named : List ℕ → Elem → LeafBelow
named name elem = record { path = codes "." ++ name; elem = elem }

-- below `.$` and a name: no program can name it
abbrev pub kept_under : List ℕ → Elem → LeafBelow
kept_under name elem = named (codes "$" ++ name) elem

abbrev pub below : List ℕ → List LeafBelow → List LeafBelow
below text [] = []
below text (l ∷ ls) = record { path = text ++ l.path; elem = l.elem } ∷ below text ls

abbrev pub has_qualifier : List ℕ → Option ActionQualifier → Bool
has_qualifier letter None = false
has_qualifier letter (Some q) = is_word letter q.name.spelling

-- associated with the qualifier P (2.6.4.4)
abbrev pub is_pulse : Association → Bool
is_pulse a = has_qualifier (codes "P") a.qualifier

-- associated with the qualifier S
abbrev pub is_stored : Association → Bool
is_stored a = has_qualifier (codes "S") a.qualifier

-- ---- steps

-- of each step, below its name: whether it is active, for how long, and since when
abbrev pub timed_leaves : List LeafBelow
timed_leaves = named (codes "X") elems.Bool ∷ named (codes "T") elems.Time ∷ kept_under (codes "M") elems.Time ∷ []

-- and, where it has pulses, whether they were given
abbrev pub state_leaves : Bool → List LeafBelow
state_leaves false = timed_leaves
state_leaves true = timed_leaves ++ kept_under (codes "P") elems.Bool ∷ []

-- the types of these
abbrev pub step_types : Bool → List Elem
step_types has_pulse = map (λ l. l.elem) (state_leaves has_pulse)

abbrev pub step_leaves : Step → List LeafBelow
step_leaves s = below (codes "." ++ s.name.spelling) (state_leaves (list_any is_pulse s.associations))

-- ---- associated names

-- what steps are associated with, in order
abbrev pub associations_of : List Step → List Association
associations_of steps = flat_map (λ s. s.associations) steps

-- what the steps among these elements of a chart are associated with
abbrev pub associations_in : List ChartElement → List Association
associations_in elements = associations_of (flat_map steps_in elements)

-- names, each once, in the order of the first
abbrev pub each_once : List (List ℕ) → List (List ℕ)
each_once [] = []
each_once (name ∷ names) = name ∷ filter (λ other. not (is_word name other)) (each_once names)

-- the names of associations, each once, in the order of its first association, whatever the qualifiers
abbrev pub associated_names : List Association → List (List ℕ)
associated_names associations = each_once (map (λ a. a.name.spelling) associations)

-- whether one of these associations has this name and the qualifier S
abbrev pub is_stored_by : List Association → List ℕ → Bool
is_stored_by associations name = list_any (λ a. is_stored a && is_word name a.name.spelling) associations

-- those of the associated names that some association has with the qualifier S
abbrev pub stored_names : List Association → List (List ℕ)
stored_names associations = filter (is_stored_by associations) (associated_names associations)

-- the names of the associations that have the qualifier S, in order, one for each of these
abbrev pub set_names : List Association → List (List ℕ)
set_names associations = map (λ a. a.name.spelling) (filter is_stored associations)

-- the names that these words are
abbrev pub spelled : List (Bor (List ℕ)) → List (List ℕ)
spelled words = map (λ word. word.now) words

-- ---- how these names are declared

-- a name as the first of these spells it that is the same, and as it stands where none is
abbrev pub as_declared : List (List ℕ) → List ℕ → List ℕ
as_declared [] name = name
as_declared (d ∷ declared) name = if is_word d name then d else as_declared declared name

-- the name of a variable, if it can be stored: a constant can't
abbrev pub storable : Declared → List (List ℕ)
storable v = if is_constant v.kind then [] else v.name.spelling ∷ []

abbrev pub variable_names : List Declared → List (List ℕ)
variable_names variables = flat_map storable variables

abbrev pub action_names : List ChartElement → List (List ℕ)
action_names elements = map (λ a. a.name.spelling) (flat_map actions_in elements)

-- the names that a chart stores, in the order of their first associations, each as the variable or the action is declared that it
-- names: the variables of its unit have these names
abbrev pub stored_by : List (List ℕ) → List ChartElement → List (List ℕ)
stored_by variables elements = map (as_declared (variables ++ action_names elements)) (stored_names (associations_in elements))

-- the names that the chart of a unit stores
abbrev pub stored_of : Declares → List (List ℕ)
stored_of unit = stored_by (variable_names (variables_in unit)) (chart_in unit)

-- ---- the whole

abbrev pub stored_leaves : List (List ℕ) → List LeafBelow
stored_leaves names = flat_map (λ name. below (codes "." ++ name) (kept_under (codes "S") elems.Bool ∷ [])) names

-- whether the chart has begun, then its steps, then the names that it stores
abbrev pub all_leaves : List (List ℕ) → List Step → List LeafBelow
all_leaves stored steps = kept_under (codes "CHART") elems.Bool ∷ flat_map step_leaves steps ++ stored_leaves stored

-- of the elements of a chart that stores these names; without any there is no chart
abbrev pub chart_leaves : List (List ℕ) → List ChartElement → List LeafBelow
chart_leaves stored [] = []
chart_leaves stored elements = all_leaves stored (flat_map steps_in elements)
