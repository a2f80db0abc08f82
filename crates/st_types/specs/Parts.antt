-- Names that are made of parts.
use Rattle.std.specs.Prelude.{ℕ, Bool, ◌&&◌, not, List, Option, Some, None, drop, length, if◌then◌else◌}
use Rattle.st_values.specs.Types.{is_same, name_of}
use Rattle.st_values.specs.Words.{begins_with_word, is_word}
use Rattle.st_values.specs.declared.elem.Elem.{Elem}

-- what stands after a word that a text begins with
abbrev pub rest_after : List ℕ → List ℕ → Option (List ℕ)
rest_after word text = if begins_with_word word text then Some (drop (length word) text) else None

-- the name is that of another type
abbrev pub is_target : Elem → List ℕ → Elem → Bool
is_target from name to = not (is_same from to) && is_word (name_of to) name
