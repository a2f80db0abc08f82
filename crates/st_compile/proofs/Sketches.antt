-- A chart without faults is strict without its names too: each of them has a number.
use Rattle.std.proofs.Common.{◌≡◌, ℕ, suc, Bool, true, false, ◌||◌, List, [], ◌∷◌, ◌++◌, map, Option, refl, sym, ap, ◌∙◌, subst}
use Rattle.std.specs.List.{AllByRecursion as Each, flat_map, list_any}
use Rattle.st_values.specs.Words.{is_word}
use Rattle.st_values.proofs.SameWords.{is_word_comm}
use Rattle.st_tree.specs.declared.tree.position.Identifier.{Identifier}
use Rattle.st_tree.specs.declared.tree.unit.Action.{Action}
use Rattle.st_tree.specs.declared.tree.unit.Association.{Association}
use Rattle.st_tree.specs.declared.tree.unit.Step.{Step}
use Rattle.st_tree.specs.declared.tree.unit.Transition.{Transition}
use Rattle.st_types.specs.Names.{Declares, is_step, steps_of}
use Rattle.st_leaves.specs.Charts.{associated_names, associations_of, stored_names}
use Rattle.st_leaves.proofs.NamesOnce.{any_once}
use Rattle.st_leaves.proofs.Pairs.{each_map, each_mapped, each_parts, each_weaker}
use Rattle.st_meaning.specs.Sketched.{bool_named, link_in, link_with, links_from, numbers_among, passage_in, sketch_with, variable_named}
use Rattle.st_meaning.specs.Wholes.{Whole}
use Rattle.st_check.proofs.NamesStored.{each_named}
use Rattle.st_meaning.proofs.Stored.{IsAmong, all_among, each_among}
use Rattle.st_compile.specs.Charts.{AreAssociated, AreLinks, AreNumbered, ArePassages, AreStepLinks, IsSketch, action_then, link_then, names_of_steps, no_link, no_passage, no_step, none_associated, passage_then, spellings, step_then, variable_then}
use Rattle.st_compile.proofs.TypedCharts.{IsAssociated, IsBetween, IsStrictAssociation, with_action, with_variable}
use Rattle.st_compile.proofs.Numbers.{IsListed, actions_numbered, are_numbered, found, identifiers_numbered}

-- ---- steps have numbers

or_right : (a b : Bool) → b ≡ true → (a || b) ≡ true
or_right true b h = refl
or_right false b h = h

steps_listed : (steps : List Step) (name : List ℕ) → list_any (λ (i : Identifier). is_word i.spelling name) (map (λ (s : Step). s.name) steps) ≡ true → IsListed (names_of_steps steps) name
steps_listed [] name h = h
steps_listed (s ∷ steps) name h = by (is_word s.name.spelling name) refl h (steps_listed steps name) where
  by : (b : Bool) → is_word s.name.spelling name ≡ b → (b || list_any (λ (i : Identifier). is_word i.spelling name) (map (λ (s : Step). s.name) steps)) ≡ true
      → (list_any (λ (i : Identifier). is_word i.spelling name) (map (λ (s : Step). s.name) steps) ≡ true → IsListed (names_of_steps steps) name) → IsListed (names_of_steps (s ∷ steps)) name
  by true q h rest = ap (λ (b : Bool). b || list_any (is_word name) (names_of_steps steps)) (is_word_comm name s.name.spelling ∙ q)
  by false q h rest = or_right (is_word name s.name.spelling) (list_any (is_word name) (names_of_steps steps)) (rest h)

module _ (w : Whole) (d : Declares) where
  passages_strict : (ts : List Transition) → Each (IsBetween d) ts → ArePassages (names_of_steps (steps_of d)) ts (map (passage_in (names_of_steps (steps_of d))) ts)
  passages_strict [] h = no_passage
  passages_strict (t ∷ ts) h = passage_then (numbered t.from h.0.0) (numbered t.to h.0.1) (passages_strict ts h.1) where
    numbered : (ns : List Identifier) → Each (λ n. is_step d n.spelling ≡ true) ns → AreNumbered (names_of_steps (steps_of d)) (spellings ns) (numbers_among (names_of_steps (steps_of d)) ns)
    numbered ns h =
        identifiers_numbered (names_of_steps (steps_of d)) ns
        (each_weaker (λ (n : Identifier). is_step d n.spelling ≡ true) (λ n. IsListed (names_of_steps (steps_of d)) n.spelling) ns (λ n. steps_listed (steps_of d) n.spelling) h)

  -- ---- associations have links

  abbrev IsLinked : List (List ℕ) → Association → Type 0
  IsLinked names a = IsListed names a.name.spelling × IsStrictAssociation w d a

  -- the name of each has a number
  each_linked : (as' : List Association) → Each (IsStrictAssociation w d) as' → Each (IsLinked (associated_names as')) as'
  each_linked as' strictly =
      let names = map (λ (a : Association). a.name.spelling) as' in
      let there = each_mapped (IsAmong names) (λ (a : Association). a.name.spelling) as' (each_among names) in
      both_each as' (each_weaker (λ (a : Association). IsAmong names a.name.spelling) (λ a. IsListed (associated_names as') a.name.spelling) as' (λ a h. any_once a.name.spelling names ∙ h) there) strictly where
        both_each : (bs : List Association) → Each (λ a. IsListed (associated_names as') a.name.spelling) bs → Each (IsStrictAssociation w d) bs → Each (IsLinked (associated_names as')) bs
        both_each [] h k = tt
        both_each (a ∷ bs) h k = ((h.0, k.0), both_each bs h.1 k.1)

  links_strict : (names : List (List ℕ)) (step : ℕ) (as' : List Association) → Each (IsLinked names) as' → AreLinks names step as' (flat_map (link_in names step) as')
  links_strict names step [] h = no_link
  links_strict names step (a ∷ as') h =
      let at = found (is_word a.name.spelling) names h.0.0 in
      subst (AreLinks names step (a ∷ as')) (sym (ap (λ (o : Option ℕ). link_with step a o ++ flat_map (link_in names step) as') at)) (link_then at h.0.1.1 (links_strict names step as' h.1))

  step_links_strict : (names : List (List ℕ)) (number : ℕ) (steps : List Step) → Each (IsLinked names) (associations_of steps) → AreStepLinks names number steps (links_from names number steps)
  step_links_strict names number [] h = no_step
  step_links_strict names number (s ∷ steps) h =
      let parts = each_parts (IsLinked names) s.associations (associations_of steps) h in
      step_then (links_strict names number s.associations parts.0) (step_links_strict names (suc number) steps parts.1)

  -- ---- what is associated

  each_name : (as' : List Association) → Each (IsStrictAssociation w d) as' → Each (IsAssociated w d) (associated_names as')
  each_name as' strictly =
      each_named (IsAssociated w d) (map (λ (a : Association). a.name.spelling) as')
      (each_map (IsAssociated w d) (λ (a : Association). a.name.spelling) as' (each_weaker (IsStrictAssociation w d) (λ a. IsAssociated w d a.name.spelling) as' (λ a h. h.0) strictly))

  associated_strict : (names : List (List ℕ)) → Each (IsAssociated w d) names → AreAssociated w d names (map (variable_named w.variables) names)
  associated_strict [] h = none_associated
  associated_strict (name ∷ names) h = by h.0 (associated_strict names h.1) where
    by : IsAssociated w d name → AreAssociated w d names (map (variable_named w.variables) names) → AreAssociated w d (name ∷ names) (variable_named w.variables name ∷ map (variable_named w.variables) names)
    by (with_action is none) rest =
        subst (λ (o : Option (List ℕ)). AreAssociated w d (name ∷ names) (o ∷ map (variable_named w.variables) names)) (sym (ap (bool_named name) none)) (action_then is none rest)
    by (with_variable type) rest =
        subst (λ (o : Option (List ℕ)). AreAssociated w d (name ∷ names) (o ∷ map (variable_named w.variables) names)) (sym (ap (bool_named name) type)) (variable_then type rest)

  -- ---- the whole

  pub sketch_strict : (transitions : List Transition) (actions : List Action) → Each (IsBetween d) transitions → Each (IsStrictAssociation w d) (associations_of (steps_of d))
      → IsSketch w d (steps_of d) transitions actions (sketch_with w.variables (associated_names (associations_of (steps_of d))) (steps_of d) transitions actions)
  sketch_strict transitions actions between associations =
      let as' = associations_of (steps_of d) in
      let names = associated_names as' in
      record {
        pulses = refl;
        passages = passages_strict transitions between;
        links = step_links_strict names 0 (steps_of d) (each_linked as' associations);
        variables = associated_strict names (each_name as' associations);
        stored = are_numbered names (stored_names as') (all_among as');
        actions = actions_numbered names actions;
      }
