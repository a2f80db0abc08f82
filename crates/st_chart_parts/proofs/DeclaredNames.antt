-- How names are declared.
use Rattle.std.proofs.Common.{◌≡◌, ℕ, ◌+◌, ◌<◌, List, [], ◌∷◌, ◌++◌, Some, None, length, option_map, take, get_or, refl, ap, sym, ◌∙◌, arith, append-nil}
use Rattle.std.specs.Borrow.{Bor}
use Rattle.std.specs.List.{flat_map, slice_get}
use Rattle.std.specs.Option.{option_and_then, unwrap_or}
use Rattle.std.proofs.lemmas.Grind.{flat_map-append}
use Rattle.std.proofs.lemmas.List.{length-map}
use Rattle.std.proofs.lemmas.Option.{slice_get-get_or, slice_get-map}
use Rattle.st_types.specs.Tables.{first_of}
use Rattle.st_tree.specs.declared.tree.unit.ChartElement.{ChartElement}
use Rattle.st_tree.specs.declared.tree.unit.Step.{Step}
use Rattle.st_types.proofs.Cases.{by_test}
use Rattle.st_types.proofs.Places.{first, first_at}
use Rattle.st_types.specs.Names.{steps_in}
use Rattle.st_values.specs.Words.{is_word}
use Rattle.st_leaves.specs.Charts.{as_declared, spelled}

-- the first that is the same
as_first : (declared : List (List ℕ)) (name : List ℕ) → as_declared declared name ≡ unwrap_or (first (λ d. is_word d name) declared) name
as_first [] name = refl
as_first (d ∷ declared) name = by_test (is_word d name) (λ t. rw t refl) (λ t. rw t (as_first declared name))

-- it stands at the place of the name
at_place : (declared : List (List ℕ)) (name : List ℕ) → as_declared declared name ≡ unwrap_or (option_and_then (slice_get declared) (first_of declared name)) name
at_place declared name = as_first declared name ∙ ap (λ found. unwrap_or found name) (sym (first_at (λ d. is_word d name) declared))

pub found_there : (declared inside : List (List ℕ)) (words : List (Bor (List ℕ))) (name : List ℕ) (i : ℕ) (d : Bor (List ℕ)) → inside ≡ declared → inside ≡ spelled words → first_of inside name ≡ Some i → i < length inside
    → (get_or words i d).now ≡ as_declared declared name
found_there declared inside words name i d seen_as are found within =
    let below : i < length words = omega (arith, ap length are ∙ length-map words (λ w. w.now), within) in
    let there : slice_get (spelled words) i ≡ Some (get_or words i d).now = slice_get-map (λ (w : Bor (List ℕ)). w.now) words i ∙ ap (option_map (λ (w : Bor (List ℕ)). w.now)) (slice_get-get_or words i d below) in
    sym (ap (λ ds. as_declared ds name) (sym seen_as ∙ are) ∙ at_place (spelled words) name
    ∙ ap (λ place. unwrap_or (option_and_then (slice_get (spelled words)) place) name) (ap (λ ds. first_of ds name) (sym are) ∙ found) ∙ ap (λ word. unwrap_or word name) there)

pub found_nowhere : (declared inside : List (List ℕ)) (name : List ℕ) → inside ≡ declared → first_of inside name ≡ None → name ≡ as_declared declared name
found_nowhere declared inside name seen_as none =
    sym (at_place declared name ∙ ap (λ place. unwrap_or (option_and_then (slice_get declared) place) name) (ap (λ ds. first_of ds name) (sym seen_as) ∙ none))
