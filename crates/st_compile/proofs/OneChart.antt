-- A strict chart is the one that typing gives: there are no two.
use Rattle.std.proofs.Common.{◌≡◌, ℕ, suc, ℤ, Bool, false, List, ◌∷◌, ◌++◌, map, Option, Some, None, refl, sym, ap, ◌∙◌}
use Rattle.std.specs.List.{flat_map, position}
use Rattle.st_values.specs.Words.{is_word}
use Rattle.st_values.specs.declared.elem.Elem.{Elem}
use Rattle.st_values.specs.declared.elem.Elem.TheVariants as elems
use Rattle.st_values.specs.declared.value.Value.{Value}
use Rattle.st_tree.specs.declared.tree.unit.Action.{Action}
use Rattle.st_tree.specs.declared.tree.unit.ActionQualifier.{ActionQualifier}
use Rattle.st_tree.specs.declared.tree.unit.Association.{Association}
use Rattle.st_tree.specs.declared.tree.unit.Step.{Step}
use Rattle.st_tree.specs.declared.tree.unit.Transition.{Transition}
use Rattle.st_types.specs.Names.{Declares}
use Rattle.st_leaves.specs.Charts.{associated_names, associations_of, stored_names}
use Rattle.st_charts.specs.Passages.{Passage}
use Rattle.st_charts.specs.declared.table.Link.{Link}
use Rattle.st_charts.specs.declared.table.Qualifier.{Qualifier}
use Rattle.st_meaning.specs.Sketched.{bool_named, link_in, link_with, links_from, passage_in, qualifier_of, sketch_with, time_in, time_of, variable_named}
use Rattle.st_meaning.specs.Sketches.{Sketch}
use Rattle.st_meaning.specs.Terms.{Actions, Commands, Term, Tests, more_actions, more_tests}
use Rattle.st_meaning.specs.Typing.{actions_of, tests_of}
use Rattle.st_meaning.specs.Wholes.{Whole}
use Rattle.st_compile.specs.Charts as strict
use Rattle.st_compile.specs.Charts.{AreActions, AreAssociated, AreLinks, ArePassages, AreStepLinks, AreTests, IsQualified, IsSketch, IsTimed, IsUntimed, in_lower_case, names_of_steps}
use Rattle.st_compile.proofs.TypedCharts.{lower_qualifier}
use Rattle.st_compile.proofs.Literals.{stays}
use Rattle.st_compile.proofs.Numbers.{identifiers_one, numbered_one, optional_one}
use Rattle.st_compile.proofs.OneCommand.{commands_one}
use Rattle.st_compile.proofs.OneTerm.{term_one}

-- ---- qualifiers

untimed_one : (letter : List ℕ) (is : Qualifier) → IsUntimed letter is → lower_qualifier letter ≡ is
untimed_one letter is strict.non_stored = refl
untimed_one letter is strict.stored = refl
untimed_one letter is strict.reset = refl
untimed_one letter is strict.pulse = refl

timed_one : (letter : List ℕ) (is : Qualifier) → IsTimed letter is → lower_qualifier letter ≡ is
timed_one letter is strict.limited = refl
timed_one letter is strict.delayed = refl

qualifier_one : (q : Option ActionQualifier) (is : Qualifier) (time : ℤ) → IsQualified q is time → qualifier_of q ≡ is
qualifier_one q is time strict.unqualified = refl
qualifier_one q is time (strict.untimed {q = named} written h) = untimed_one (in_lower_case named) is h
qualifier_one q is time (strict.timed {q = named} written h inside) = timed_one (in_lower_case named) is h

time_one : (q : Option ActionQualifier) (is : Qualifier) (time : ℤ) → IsQualified q is time → time_of q ≡ time
time_one q is time strict.unqualified = refl
time_one q is time (strict.untimed written h) = ap time_in written
time_one q is time (strict.timed {d = d} written h inside) = ap time_in written ∙ ap (λ (v : Value). v.bits) (stays elems.Time d.milliseconds inside)

-- ---- transitions and associations

passages_one : (steps : List (List ℕ)) (ts : List Transition) (ps : List Passage) → ArePassages steps ts ps → map (passage_in steps) ts ≡ ps
passages_one steps ts ps strict.no_passage = refl
passages_one steps ts ps (strict.passage_then {t = t} {ts = more} {before = before} {after = after} {ps = others} h k rest) =
    ap (λ (ns : List ℕ). (record { before = ns; after = (passage_in steps t).after; priority = t.priority }) ∷ map (passage_in steps) more) (identifiers_one steps t.from before h)
    ∙ ap (λ (ns : List ℕ). (record { before = before; after = ns; priority = t.priority }) ∷ map (passage_in steps) more) (identifiers_one steps t.to after k)
    ∙ ap (λ (qs : List Passage). (record { before = before; after = after; priority = t.priority }) ∷ qs) (passages_one steps more others rest)

module _ (names : List (List ℕ)) where
  link_one : (step n : ℕ) (a : Association) (is : Qualifier) (time : ℤ) (ls : List Link) → position (is_word a.name.spelling) names ≡ Some n → IsQualified a.qualifier is time
      → link_in names step a ++ ls ≡ (record { step = step; name = n; qualifier = is; time = time }) ∷ ls
  link_one step n a is time ls at h =
      ap (λ (o : Option ℕ). link_with step a o ++ ls) at
      ∙ ap (λ (q : Qualifier). (record { step = step; name = n; qualifier = q; time = time_of a.qualifier }) ∷ ls) (qualifier_one a.qualifier is time h)
      ∙ ap (λ (t : ℤ). (record { step = step; name = n; qualifier = is; time = t }) ∷ ls) (time_one a.qualifier is time h)

  links_one : (step : ℕ) (as' : List Association) (ls : List Link) → AreLinks names step as' ls → flat_map (link_in names step) as' ≡ ls
  links_one step as' ls strict.no_link = refl
  links_one step as' ls (strict.link_then {a = a} {as' = more} {n = n} {is = is} {time = time} {ls = others} at h rest) =
      link_one step n a is time (flat_map (link_in names step) more) at h
      ∙ ap (λ (ks : List Link). (record { step = step; name = n; qualifier = is; time = time }) ∷ ks) (links_one step more others rest)

  step_links_one : (number : ℕ) (steps : List Step) (ls : List Link) → AreStepLinks names number steps ls → links_from names number steps ≡ ls
  step_links_one number steps ls strict.no_step = refl
  step_links_one number steps ls (strict.step_then {s = s} {steps = others} {here = here} {more = more} h k) =
      ap (λ (ks : List Link). ks ++ links_from names (suc number) others) (links_one number s.associations here h) ∙ ap (λ (ks : List Link). here ++ ks) (step_links_one (suc number) others more k)

-- ---- what is associated

module _ (w : Whole) where
  associated_one : (d : Declares) (names : List (List ℕ)) (vs : List (Option (List ℕ))) → AreAssociated w d names vs → map (variable_named w.variables) names ≡ vs
  associated_one d names vs strict.none_associated = refl
  associated_one d names vs (strict.action_then {name = name} {names = more} {vs = others} is none rest) =
      ap (λ (o : Option Elem). bool_named name o ∷ map (variable_named w.variables) more) none ∙ ap (λ (os : List (Option (List ℕ))). None ∷ os) (associated_one d more others rest)
  associated_one d names vs (strict.variable_then {name = name} {names = more} {vs = others} type rest) =
      ap (λ (o : Option Elem). bool_named name o ∷ map (variable_named w.variables) more) type ∙ ap (λ (os : List (Option (List ℕ))). Some name ∷ os) (associated_one d more others rest)

  -- ---- conditions and actions

  pub tests_one : (ts : List Transition) (tests : Tests) → AreTests w ts tests → tests_of w ts ≡ tests
  tests_one ts tests strict.no_test = refl
  tests_one ts tests (strict.test_then {t = t} {ts = more} {a = a} {more = others} h rest) =
      ap (λ (x : Term). more_tests t.position.line x (tests_of w more)) (term_one w elems.Bool t.condition a h) ∙ ap (more_tests t.position.line a) (tests_one more others rest)

  pub actions_one : (as' : List Action) (done : Actions) → AreActions w as' done → actions_of w as' ≡ done
  actions_one as' done strict.no_action = refl
  actions_one as' done (strict.action_then {a = a} {as' = more} {cs = cs} {more = others} h rest) =
      ap (λ (x : Commands). more_actions x (actions_of w more)) (commands_one w false a.statements cs h) ∙ ap (more_actions cs) (actions_one more others rest)

  -- ---- the whole

  pub sketch_one : (d : Declares) (steps : List Step) (transitions : List Transition) (actions : List Action) (sketch : Sketch) → IsSketch w d steps transitions actions sketch
      → sketch_with w.variables (associated_names (associations_of steps)) steps transitions actions ≡ sketch
  sketch_one d steps transitions actions sketch is =
      let names = associated_names (associations_of steps) in
      let made = sketch_with w.variables names steps transitions actions in
      ap (λ (x : List Bool). record { pulses = x; passages = made.passages; links = made.links; variables = made.variables; stored = made.stored; actions = made.actions }) (sym is.pulses)
      ∙ ap (λ (x : List Passage). record { pulses = sketch.pulses; passages = x; links = made.links; variables = made.variables; stored = made.stored; actions = made.actions })
      (passages_one (names_of_steps steps) transitions sketch.passages is.passages)
      ∙ ap (λ (x : List Link). record { pulses = sketch.pulses; passages = sketch.passages; links = x; variables = made.variables; stored = made.stored; actions = made.actions })
      (step_links_one names 0 steps sketch.links is.links)
      ∙ ap (λ (x : List (Option (List ℕ))). record { pulses = sketch.pulses; passages = sketch.passages; links = sketch.links; variables = x; stored = made.stored; actions = made.actions })
      (associated_one d names sketch.variables is.variables)
      ∙ ap (λ (x : List ℕ). record { pulses = sketch.pulses; passages = sketch.passages; links = sketch.links; variables = sketch.variables; stored = x; actions = made.actions })
      (numbered_one names (stored_names (associations_of steps)) sketch.stored is.stored)
      ∙ ap (λ (x : List ℕ). record { pulses = sketch.pulses; passages = sketch.passages; links = sketch.links; variables = sketch.variables; stored = sketch.stored; actions = x })
      (optional_one names actions sketch.actions is.actions)
