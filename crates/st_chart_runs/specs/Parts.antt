-- Values of the leaves of which those of a part are the first.
use Rattle.std.specs.Prelude.{List, [], ◌∷◌}
use Rattle.st_values.specs.declared.elem.Elem.{Elem}
use Rattle.st_values.specs.Values.{IsOfType}
use Rattle.st_meaning.specs.Meaning.{Values}

-- the first values are of these types
abbrev pub AreFirst : List Elem → Values → Type 0
AreFirst [] values = Unit {0}
AreFirst (t ∷ types) [] = ⊥
AreFirst (t ∷ types) (v ∷ values) = IsOfType t v × AreFirst types values
