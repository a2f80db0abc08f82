-- Tables of names.
use Rattle.std.specs.Prelude.{ℕ, ◌≡◌, Bool, List, Option, nat_eq, position}
use Rattle.std.specs.Cmp.Lexicographic.{pointwise}
use Rattle.std.specs.Ordering.{on}
use Rattle.std.specs.Str.{str_to_ascii_lowercase}
use Rattle.indexmap.specs.IndexMap.{IndexMap, get}
use Rattle.st_values.specs.Words.{is_word}

-- two spellings of one name
abbrev pub is_same : List ℕ → List ℕ → Bool
is_same a b = on str_to_ascii_lowercase (pointwise nat_eq) a b

-- the number of the first of this name
abbrev pub first_of : List (List ℕ) → List ℕ → Option ℕ
first_of names name = position (λ n. is_word n name) names

-- the map has the number of the first of each name
abbrev pub HasFirsts : {S : Type 0} → IndexMap (List ℕ) ℕ S → List (List ℕ) → Type 0
HasFirsts numbers names = (name : List ℕ) → get is_same numbers name ≡ first_of names name
