-- The names of associations, in code.
use Rattle.std.specs.Prelude.{◌≡◌, ℕ, List, ◌++◌}
use Rattle.std.specs.List.{filter, list_any}
use Rattle.st_values.specs.Words.{is_word}
use Rattle.st_tree.specs.declared.tree.unit.Association.{Association}
use Rattle.st_leaves.specs.Charts.{associated_names}

-- where the old names are those of some associations, the new ones are those of these and more
abbrev pub HasNamesOf : List Association → List (List ℕ) → List (List ℕ) → Type 0
HasNamesOf more old new = (before : List Association) → old ≡ associated_names before → new ≡ associated_names (before ++ more)

-- those of these names, in order, that are the same as some name of a table
abbrev pub names_among : List (List ℕ) → List (List ℕ) → List (List ℕ)
names_among table names = filter (λ name. list_any (is_word name) table) names
