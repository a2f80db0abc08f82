-- The charts of a text (2.6) without their names: which number each step, each transition and each associated name has. What isn't
-- declared, which no program names that keeps the rules, is left out.
use Rattle.std.specs.Prelude.{ℕ, suc, ℤ, pos, if◌then◌else◌, List, [], ◌∷◌, ◌++◌, codes, map, Option, Some, None}
use Rattle.std.specs.List.{flat_map, list_any, position, position_or_len}
use Rattle.st_values.specs.Types.{is_same}
use Rattle.st_values.specs.Words.{is_word}
use Rattle.st_values.specs.declared.elem.Elem.{Elem}
use Rattle.st_values.specs.declared.elem.Elem.TheVariants as elems
use Rattle.st_tree.specs.declared.tree.constant.Constant.TheVariants as constants
use Rattle.st_tree.specs.declared.tree.constant.Duration.{Duration}
use Rattle.st_tree.specs.declared.tree.position.Identifier.{Identifier}
use Rattle.st_tree.specs.declared.tree.unit.Action.{Action}
use Rattle.st_tree.specs.declared.tree.unit.ActionQualifier.{ActionQualifier}
use Rattle.st_tree.specs.declared.tree.unit.Association.{Association}
use Rattle.st_tree.specs.declared.tree.unit.ChartElement.{ChartElement}
use Rattle.st_tree.specs.declared.tree.unit.ChartElement.TheVariants as chart_elements
use Rattle.st_tree.specs.declared.tree.unit.Step.{Step}
use Rattle.st_tree.specs.declared.tree.unit.Transition.{Transition}
use Rattle.st_types.specs.Compositions.{Composition}
use Rattle.st_types.specs.Initials.{value_written}
use Rattle.st_types.specs.Names.{actions_in, steps_in}
use Rattle.st_leaves.specs.Charts.{associated_names, associations_of, is_pulse, stored_names}
use Rattle.st_charts.specs.Passages.{Passage}
use Rattle.st_charts.specs.declared.table.Link.{Link}
use Rattle.st_charts.specs.declared.table.Qualifier.{Qualifier}
use Rattle.st_charts.specs.declared.table.Qualifier.TheVariants.{NonStored, Reset, Stored, Limited, Delayed, Pulse}
use Rattle.st_meaning.specs.Sketches.{Sketch}
use Rattle.st_meaning.specs.Terms.{whole, field_part}
use Rattle.st_meaning.specs.Wholes.{type_of}

-- ---- what a chart consists of

abbrev pub transitions_in : ChartElement → List Transition
transitions_in (chart_elements.Transition t) = t ∷ []
transitions_in _ = []

-- ---- names as numbers

-- the number of a name, in a list of its own
abbrev pub number_listed : Option ℕ → List ℕ
number_listed None = []
number_listed (Some n) = n ∷ []

abbrev pub numbers_among : List (List ℕ) → List Identifier → List ℕ
numbers_among names identifiers = flat_map (λ i. number_listed (position (is_word i.spelling) names)) identifiers

-- the number of a name, or how many there are where it is none of them
abbrev pub number_among : List (List ℕ) → List ℕ → ℕ
number_among names name = position_or_len (is_word name) names

-- ---- transitions

abbrev pub passage_in : List (List ℕ) → Transition → Passage
passage_in steps t = record { before = numbers_among steps t.from; after = numbers_among steps t.to; priority = t.priority }

-- ---- associations

-- without a qualifier it is N
abbrev pub qualifier_named : List ℕ → Qualifier
qualifier_named letter =
    if is_word (codes "R") letter then Reset else if is_word (codes "S") letter then Stored else if is_word (codes "L") letter then Limited
    else if is_word (codes "D") letter then Delayed else if is_word (codes "P") letter then Pulse else NonStored

abbrev pub qualifier_of : Option ActionQualifier → Qualifier
qualifier_of None = NonStored
qualifier_of (Some q) = qualifier_named q.name.spelling

-- in milliseconds, and 0 where no duration is written
abbrev pub time_in : Option Duration → ℤ
time_in None = pos 0
time_in (Some d) = (value_written elems.Time (constants.Duration d)).bits

abbrev pub time_of : Option ActionQualifier → ℤ
time_of None = pos 0
time_of (Some q) = time_in q.duration

abbrev pub link_with : ℕ → Association → Option ℕ → List Link
link_with step a None = []
link_with step a (Some n) = record { step = step; name = n; qualifier = qualifier_of a.qualifier; time = time_of a.qualifier } ∷ []

abbrev pub link_in : List (List ℕ) → ℕ → Association → List Link
link_in names step a = link_with step a (position (is_word a.name.spelling) names)

-- of the steps from this number on
abbrev pub links_from : List (List ℕ) → ℕ → List Step → List Link
links_from names number [] = []
links_from names number (s ∷ steps) = flat_map (link_in names number) s.associations ++ links_from names (suc number) steps

-- a name that is a BOOL variable
abbrev pub bool_named : List ℕ → Option Elem → Option (List ℕ)
bool_named name None = None
bool_named name (Some e) = if is_same e elems.Bool then Some name else None

abbrev pub variable_named : Composition → List ℕ → Option (List ℕ)
variable_named root name = bool_named name (type_of root (field_part name whole))

-- ---- the whole

-- of steps, transitions and actions in a unit with these variables, where the steps are associated with these names
abbrev pub sketch_with : Composition → List (List ℕ) → List Step → List Transition → List Action → Sketch
sketch_with root names steps transitions actions = record {
  pulses = map (λ s. list_any is_pulse s.associations) steps;
  passages = map (passage_in (map (λ s. s.name.spelling) steps)) transitions;
  links = links_from names 0 steps;
  variables = map (variable_named root) names;
  stored = map (number_among names) (stored_names (associations_of steps));
  actions = map (λ a. number_among names a.name.spelling) actions;
}

abbrev pub sketch_of : Composition → List ChartElement → Sketch
sketch_of root elements =
    let steps = flat_map steps_in elements in
    sketch_with root (associated_names (associations_of steps)) steps (flat_map transitions_in elements) (flat_map actions_in elements)
