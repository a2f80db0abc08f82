-- A chart as numbers, as a whole.
use Rattle.std.proofs.Common.{◌≡◌, ℕ, List, [], ◌∷◌, map, refl, ap, ◌∙◌}
use Rattle.std.specs.List.{flat_map, list_any}
use Rattle.std.specs.Option.{is_some}
use Rattle.st_tree.specs.declared.tree.unit.ChartElement.{ChartElement}
use Rattle.st_types.specs.Compositions.{Composition}
use Rattle.st_types.specs.Names.{actions_in, steps_in}
use Rattle.st_leaves.specs.Charts.{associations_in, is_pulse, stored_names}
use Rattle.st_meaning.specs.Sketched.{links_from, number_among, passage_in, sketch_of, transitions_in, variable_named}
use Rattle.st_meaning.specs.Views.{IsOf, SketchView, names_of}

map_map : {A B C : Type 0} (f : A → B) (g : B → C) (xs : List A) → map (λ x. g (f x)) xs ≡ map g (map f xs)
map_map f g [] = refl
map_map f g (x ∷ xs) = ap (λ ys. g (f x) ∷ ys) (map_map f g xs)

pub is_of : (view : SketchView) (root : Composition) (elements : List ChartElement) (names : List (List ℕ)) → names ≡ names_of elements
    → view.pulses ≡ map (λ s. list_any is_pulse s.associations) (flat_map steps_in elements)
    → view.passages ≡ map (passage_in (map (λ s. s.name.spelling) (flat_map steps_in elements))) (flat_map transitions_in elements)
    → view.links ≡ links_from names 0 (flat_map steps_in elements)
    → view.variables ≡ map (λ n. is_some (variable_named root n)) names
    → view.stored ≡ map (number_among names) (stored_names (associations_in elements))
    → view.actions ≡ map (λ a. number_among names a.name.spelling) (flat_map actions_in elements)
    → IsOf view (sketch_of root elements)
is_of view root elements names are pulses passages links variables stored actions = record {
  pulses = pulses;
  passages = passages;
  links = links ∙ ap (λ ns. links_from ns 0 (flat_map steps_in elements)) are;
  variables = variables ∙ map_map (variable_named root) is_some names ∙ ap (λ ns. map is_some (map (variable_named root) ns)) are;
  stored = stored ∙ ap (λ ns. map (number_among ns) (stored_names (associations_in elements))) are;
  actions = actions ∙ ap (λ ns. map (λ a. number_among ns a.name.spelling) (flat_map actions_in elements)) are;
}
