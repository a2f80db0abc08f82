-- Declared names by name.
use Rattle.std.proofs.Common.{◌≡◌, ℕ, List, [], ◌∷◌, refl, ◌∙◌, ap}
use Rattle.std.specs.List.{slice_get}
use Rattle.std.specs.Option.{option_and_then}
use Rattle.st_types.specs.Tables.{first_of}
use Rattle.st_scopes.specs.Declarations.{spellings_of}
use Rattle.st_types.specs.Names.{Declared, declared_named}
use Rattle.st_values.specs.Words.{is_word}
use Rattle.st_types.proofs.Cases.{by_test}
use Rattle.st_types.proofs.Places.{first, first_at, position-map}

first_named : (all : List Declared) (name : List ℕ) → first (λ d. is_word d.name.spelling name) all ≡ declared_named all name
first_named [] name = refl
first_named (d ∷ all) name = by_test (is_word d.name.spelling name) (λ t. rw t refl) (λ t. rw t (first_named all name))

-- the first of a name stands at the place of the name
pub named_at : (all : List Declared) (name : List ℕ) → option_and_then (slice_get all) (first_of (spellings_of all) name) ≡ declared_named all name
named_at all name =
    ap (option_and_then (slice_get all)) (position-map (λ (d : Declared). d.name.spelling) (λ n. is_word n name) all) ∙ (first_at (λ d. is_word d.name.spelling name) all ∙ first_named all name)
