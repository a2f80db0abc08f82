-- The inputs of functions, by their names and by the values that they begin with (2.5.1).
use Rattle.std.specs.Prelude.{◌≡◌, ℕ, List, [], ◌∷◌, length}
use Rattle.st_values.specs.declared.value.Value.{Value}
use Rattle.st_meaning.specs.Wholes.{Called, Input}
use Rattle.st_places.specs.declared.function.Function.TheInside.{Inside}

-- each name with its value
abbrev pub inputs_by : List (List ℕ) → List Value → List Input
inputs_by [] vs = []
inputs_by (n ∷ ns) [] = []
inputs_by (n ∷ ns) (v ∷ vs) = record { name = n; initial = v } ∷ inputs_by ns vs

abbrev pub called_seen : Inside → Called
called_seen f = record { number = f.number; result = f.result; inputs = inputs_by f.names f.initials }

-- each input has a name and a value
abbrev pub HasInputs : Inside → Type 0
HasInputs f = length f.names ≡ length f.initials
