-- What the rules say of names that are declared together (2.1.2, 2.4.2).
use Rattle.std.specs.Prelude.{ℕ, Bool, List, [], ◌∷◌, ◌++◌, map}
use Rattle.std.specs.List.{list_any}
use Rattle.st_values.specs.Words.{is_word}
use Rattle.st_tree.specs.declared.tree.position.Identifier.{Identifier}
use Rattle.st_faults.specs.Faults.{fault, when}
use Rattle.st_faults.specs.declared.fault.Fault.{Fault}
use Rattle.st_faults.specs.declared.fault.Rule.TheVariants as rules

abbrev pub spellings : List Identifier → List (List ℕ)
spellings names = map (λ n. n.spelling) names

-- one of these is the name
abbrev pub is_there : List (List ℕ) → List ℕ → Bool
is_there others name = list_any (λ other. is_word other name) others

-- C2: each of these names that stands before it already, or among `others`
abbrev pub repeated : List (List ℕ) → List Identifier → List Fault
repeated others [] = []
repeated others (n ∷ ns) = when (is_there others n.spelling) (fault n.position rules.NameTwice) ++ repeated (others ++ n.spelling ∷ []) ns
