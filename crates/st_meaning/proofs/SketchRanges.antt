-- The numbers in what a chart is without names are those of its steps and names (2.6).
use Rattle.std.proofs.Common.{◌≡◌, ℕ, suc, ◌+◌, ◌<◌, ◌≤◌, List, [], ◌∷◌, map, length, Option, Some, None, refl, subst, arith}
use Rattle.std.specs.List.{All, flat_map, list_any, position}
use Rattle.std.proofs.lemmas.List.{length-map}
use Rattle.std.proofs.lemmas.List.Elements.{All-append, All-cons, All-nil}
use Rattle.std.proofs.lemmas.List.Quantifiers.{position-Some}
use Rattle.st_values.specs.Words.{is_word}
use Rattle.st_tree.specs.declared.tree.position.Identifier.{Identifier}
use Rattle.st_tree.specs.declared.tree.unit.Association.{Association}
use Rattle.st_tree.specs.declared.tree.unit.Step.{Step}
use Rattle.st_tree.specs.declared.tree.unit.Transition.{Transition}
use Rattle.st_types.specs.Names.{steps_in}
use Rattle.st_leaves.specs.Charts.{associated_names, associations_of, is_pulse}
use Rattle.st_charts.specs.Passages.{Passage}
use Rattle.st_charts.specs.declared.table.Link.{Link}
use Rattle.st_meaning.specs.InRange.{SketchesAreInRange}
use Rattle.st_meaning.specs.Sketched.{link_in, link_with, links_from, number_listed, numbers_among, passage_in, qualifier_of, sketch_of, time_of, transitions_in, variable_named}

-- ---- names as numbers

abbrev AreBelow : ℕ → List ℕ → Type 0
AreBelow count ns = All (λ n. n < count) ns

listed_below : (names : List (List ℕ)) (name : List ℕ) (o : Option ℕ) → position (is_word name) names ≡ o → AreBelow (length names) (number_listed o)
listed_below names name None h = All-nil (λ n. n < length names)
listed_below names name (Some n) h = All-cons (λ m. m < length names) n [] (position-Some (is_word name) names n [] h).0 (All-nil (λ m. m < length names))

numbers_below : (names : List (List ℕ)) (identifiers : List Identifier) → AreBelow (length names) (numbers_among names identifiers)
numbers_below names [] = All-nil (λ n. n < length names)
numbers_below names (i ∷ identifiers) =
    All-append (λ n. n < length names) (number_listed (position (is_word i.spelling) names)) (numbers_among names identifiers)
    (listed_below names i.spelling (position (is_word i.spelling) names) refl) (numbers_below names identifiers)

-- ---- transitions

record IsBelow (count : ℕ) (p : Passage) : Type 0 where
  before : AreBelow count p.before
  after : AreBelow count p.after

passage_below : (names : List (List ℕ)) (t : Transition) → IsBelow (length names) (passage_in names t)
passage_below names t = record { before = numbers_below names t.from; after = numbers_below names t.to }

passages_before : (names : List (List ℕ)) (ts : List Transition) → All (λ p. AreBelow (length names) p.before) (map (passage_in names) ts)
passages_before names [] = All-nil (λ p. AreBelow (length names) p.before)
passages_before names (t ∷ ts) =
    All-cons (λ p. AreBelow (length names) p.before) (passage_in names t) (map (passage_in names) ts) (passage_below names t).before (passages_before names ts)

passages_after : (names : List (List ℕ)) (ts : List Transition) → All (λ p. AreBelow (length names) p.after) (map (passage_in names) ts)
passages_after names [] = All-nil (λ p. AreBelow (length names) p.after)
passages_after names (t ∷ ts) =
    All-cons (λ p. AreBelow (length names) p.after) (passage_in names t) (map (passage_in names) ts) (passage_below names t).after (passages_after names ts)

-- ---- associations

-- its step and its name are below these
record IsLinkBelow (steps names : ℕ) (l : Link) : Type 0 where
  step : l.step < steps
  name : l.name < names

module _ (names : List (List ℕ)) (count : ℕ) where
  abbrev Below : List Link → Type 0
  Below ls = All (IsLinkBelow count (length names)) ls

  one_below : (s : ℕ) (a : Association) (o : Option ℕ) → s < count → position (is_word a.name.spelling) names ≡ o → Below (link_with s a o)
  one_below s a None few h = All-nil (IsLinkBelow count (length names))
  one_below s a (Some n) few h =
      let l : Link = record { step = s; name = n; qualifier = qualifier_of a.qualifier; time = time_of a.qualifier } in
      All-cons (IsLinkBelow count (length names)) l [] (record { step = few; name = (position-Some (is_word a.name.spelling) names n [] h).0 }) (All-nil (IsLinkBelow count (length names)))

  step_below : (s : ℕ) (as' : List Association) → s < count → Below (flat_map (link_in names s) as')
  step_below s [] few = All-nil (IsLinkBelow count (length names))
  step_below s (a ∷ more) few =
      All-append (IsLinkBelow count (length names)) (link_in names s a) (flat_map (link_in names s) more) (one_below s a (position (is_word a.name.spelling) names) few refl) (step_below s more few)

  links_below : (number : ℕ) (steps : List Step) → number + length steps ≤ count → Below (links_from names number steps)
  links_below number [] few = All-nil (IsLinkBelow count (length names))
  links_below number (s ∷ steps) few =
      All-append (IsLinkBelow count (length names)) (flat_map (link_in names number) s.associations) (links_from names (suc number) steps)
      (step_below number s.associations (omega (arith, few))) (links_below (suc number) steps (omega (arith, few)))

-- ---- the whole

pub sketches_are_in_range : SketchesAreInRange
sketches_are_in_range root elements =
    let steps = flat_map steps_in elements in
    let ts = flat_map transitions_in elements in
    let names = associated_names (associations_of steps) in
    let step_names = map (λ (s : Step). s.name.spelling) steps in
    let sketch = sketch_of root elements in
    let links = links_from names 0 steps in
    let many : length step_names ≡ length sketch.pulses = omega (arith, length-map steps (λ (s : Step). s.name.spelling), length-map steps (λ (s : Step). list_any is_pulse s.associations)) in
    let as_many : length steps ≡ length sketch.pulses = omega (arith, length-map steps (λ (s : Step). list_any is_pulse s.associations)) in
    let named : length names ≡ length sketch.variables = omega (arith, length-map names (variable_named root)) in
    let below = links_below names (length sketch.pulses) 0 steps (omega (arith, as_many)) in
    record {
      before = subst (λ n. All (λ p. AreBelow n p.before) sketch.passages) many (passages_before step_names ts);
      after = subst (λ n. All (λ p. AreBelow n p.after) sketch.passages) many (passages_after step_names ts);
      linked = λ k d few. (below k d few).step;
      named = subst (λ n. All (λ l. l.name < n) links) named (λ k d few. (below k d few).name);
    }
