-- Charts by cases (2.6): each name in them has a number, nothing that they name is left out, and each of their conditions and
-- statements is strict.
use Rattle.std.specs.Char.{to_ascii_lowercase}
use Rattle.std.specs.List.{list_any, position}
use Rattle.std.specs.Prelude.{◌≡◌, ℕ, suc, true, false, List, [], ◌∷◌, ◌++◌, codes, length, map, ℤ, pos, Option, Some, None}
use Rattle.st_values.specs.Values.{in_range}
use Rattle.st_values.specs.Words.{is_word}
use Rattle.st_values.specs.declared.elem.Elem.TheVariants as elems
use Rattle.st_tree.specs.declared.tree.constant.Duration.{Duration}
use Rattle.st_tree.specs.declared.tree.position.Identifier.{Identifier}
use Rattle.st_tree.specs.declared.tree.unit.Action.{Action}
use Rattle.st_tree.specs.declared.tree.unit.ActionQualifier.{ActionQualifier}
use Rattle.st_tree.specs.declared.tree.unit.Association.{Association}
use Rattle.st_tree.specs.declared.tree.unit.Step.{Step}
use Rattle.st_tree.specs.declared.tree.unit.Transition.{Transition}
use Rattle.st_types.specs.Names.{Declares, is_action}
use Rattle.st_leaves.specs.Charts.{associated_names, associations_of, is_pulse, stored_names}
use Rattle.st_charts.specs.Passages.{Passage}
use Rattle.st_charts.specs.declared.table.Link.{Link}
use Rattle.st_charts.specs.declared.table.Qualifier.{Qualifier}
use Rattle.st_charts.specs.declared.table.Qualifier.TheVariants.{NonStored, Reset, Stored, Limited, Delayed, Pulse}
use Rattle.st_meaning.specs.Sketches.{Sketch}
use Rattle.st_meaning.specs.Terms.{Term, Commands, Tests, no_tests, more_tests, Actions, no_actions, more_actions, whole, field_part}
use Rattle.st_meaning.specs.Wholes.{Whole, type_of}
use Rattle.st_compile.specs.Commands.{AreCommands}
use Rattle.st_compile.specs.Terms.{IsTerm}

-- ---- conditions and actions

-- the condition of each transition is a BOOL
pub data AreTests (w : Whole) : List Transition → Tests → Type 0 where
  no_test : AreTests w [] no_tests
  test_then : {t : Transition} {ts : List Transition} {a : Term} {more : Tests} → IsTerm w elems.Bool t.condition a
      → AreTests w ts more
      → AreTests w (t ∷ ts) (more_tests t.position.line a more)

pub data AreActions (w : Whole) : List Action → Actions → Type 0 where
  no_action : AreActions w [] no_actions
  action_then : {a : Action} {as' : List Action} {cs : Commands} {more : Actions} → AreCommands w false a.statements cs
      → AreActions w as' more
      → AreActions w (a ∷ as') (more_actions cs more)

-- ---- names as numbers

-- each of these names is one of a list, and has its number there
pub data AreNumbered (listed : List (List ℕ)) : List (List ℕ) → List ℕ → Type 0 where
  no_number : AreNumbered listed [] []
  numbered_then : {name : List ℕ} {names : List (List ℕ)} {n : ℕ} {ns : List ℕ} → position (is_word name) listed ≡ Some n
      → AreNumbered listed names ns
      → AreNumbered listed (name ∷ names) (n ∷ ns)

-- an action has the number of its name, or as many as there are where no step is associated with it
pub data AreOptional (listed : List (List ℕ)) : List Action → List ℕ → Type 0 where
  no_optional : AreOptional listed [] []
  listed_then : {a : Action} {as' : List Action} {n : ℕ} {ns : List ℕ} → position (is_word a.name.spelling) listed ≡ Some n
      → AreOptional listed as' ns
      → AreOptional listed (a ∷ as') (n ∷ ns)
  unlisted_then : {a : Action} {as' : List Action} {ns : List ℕ} → position (is_word a.name.spelling) listed ≡ None
      → AreOptional listed as' ns
      → AreOptional listed (a ∷ as') (length listed ∷ ns)

-- ---- transitions: from steps to steps (2.6.3)

abbrev pub spellings : List Identifier → List (List ℕ)
spellings ns = map (λ n. n.spelling) ns

pub data ArePassages (steps : List (List ℕ)) : List Transition → List Passage → Type 0 where
  no_passage : ArePassages steps [] []
  passage_then : {t : Transition} {ts : List Transition} {before after : List ℕ} {ps : List Passage}
      → AreNumbered steps (spellings t.from) before
      → AreNumbered steps (spellings t.to) after → ArePassages steps ts ps
      → ArePassages steps (t ∷ ts) (record { before = before; after = after; priority = t.priority } ∷ ps)

-- ---- associations (2.6.4)

-- in lower case: N, S, R and P are written without a duration
pub data IsUntimed : List ℕ → Qualifier → Type 0 where
  non_stored : IsUntimed (codes "n") NonStored
  stored : IsUntimed (codes "s") Stored
  reset : IsUntimed (codes "r") Reset
  pulse : IsUntimed (codes "p") Pulse

-- .. and L and D with one
pub data IsTimed : List ℕ → Qualifier → Type 0 where
  limited : IsTimed (codes "l") Limited
  delayed : IsTimed (codes "d") Delayed

abbrev pub in_lower_case : ActionQualifier → List ℕ
in_lower_case q = map to_ascii_lowercase q.name.spelling

-- a qualifier, and its duration in milliseconds; without one it is N
pub data IsQualified : Option ActionQualifier → Qualifier → ℤ → Type 0 where
  unqualified : IsQualified None NonStored (pos 0)
  untimed : {q : ActionQualifier} {is : Qualifier} → q.duration ≡ None → IsUntimed (in_lower_case q) is
      → IsQualified (Some q) is (pos 0)
  timed : {q : ActionQualifier} {is : Qualifier} {d : Duration} → q.duration ≡ Some d → IsTimed (in_lower_case q) is
      → in_range elems.Time d.milliseconds ≡ true
      → IsQualified (Some q) is d.milliseconds

-- the associations of the step of this number
pub data AreLinks (names : List (List ℕ)) (step : ℕ) : List Association → List Link → Type 0 where
  no_link : AreLinks names step [] []
  link_then : {a : Association} {as' : List Association} {n : ℕ} {is : Qualifier} {time : ℤ} {ls : List Link}
      → position (is_word a.name.spelling) names ≡ Some n
      → IsQualified a.qualifier is time → AreLinks names step as' ls
      → AreLinks names step (a ∷ as') (record { step = step; name = n; qualifier = is; time = time } ∷ ls)

-- of the steps from this number on
pub data AreStepLinks (names : List (List ℕ)) : ℕ → List Step → List Link → Type 0 where
  no_step : {number : ℕ} → AreStepLinks names number [] []
  step_then : {number : ℕ} {s : Step} {steps : List Step} {here more : List Link} → AreLinks names number s.associations here
      → AreStepLinks names (suc number) steps more
      → AreStepLinks names number (s ∷ steps) (here ++ more)

-- what is associated is an action, or a BOOL variable
pub data AreAssociated (w : Whole) (d : Declares) : List (List ℕ) → List (Option (List ℕ)) → Type 0 where
  none_associated : AreAssociated w d [] []
  action_then : {name : List ℕ} {names : List (List ℕ)} {vs : List (Option (List ℕ))} → is_action d name ≡ true
      → type_of w.variables (field_part name whole) ≡ None
      → AreAssociated w d names vs → AreAssociated w d (name ∷ names) (None ∷ vs)
  variable_then : {name : List ℕ} {names : List (List ℕ)} {vs : List (Option (List ℕ))}
      → type_of w.variables (field_part name whole) ≡ Some elems.Bool
      → AreAssociated w d names vs → AreAssociated w d (name ∷ names) (Some name ∷ vs)

-- ---- the whole

abbrev pub names_of_steps : List Step → List (List ℕ)
names_of_steps steps = map (λ s. s.name.spelling) steps

-- a chart of these steps, transitions and actions without its names, in a unit that declares this
pub record IsSketch (w : Whole) (d : Declares) (steps : List Step) (transitions : List Transition) (acts : List Action) (sketch : Sketch) : Type 0 where
  pub pulses : sketch.pulses ≡ map (λ s. list_any is_pulse s.associations) steps
  pub passages : ArePassages (names_of_steps steps) transitions sketch.passages
  pub links : AreStepLinks (associated_names (associations_of steps)) 0 steps sketch.links
  pub variables : AreAssociated w d (associated_names (associations_of steps)) sketch.variables
  pub stored : AreNumbered (associated_names (associations_of steps)) (stored_names (associations_of steps)) sketch.stored
  pub actions : AreOptional (associated_names (associations_of steps)) acts sketch.actions
