-- Inputs by position and by name.
use Rattle.std.proofs.Common.{◌≡◌, ℕ, zero, suc, List, [], ◌∷◌, Option, Some, None, refl}
use Rattle.std.specs.List.{slice_get}
use Rattle.st_types.specs.Tables.{first_of}
use Rattle.st_types.specs.Inputs.{input_names}
use Rattle.st_types.specs.OwnTypes.{nth_due}
use Rattle.st_types.specs.Signatures.{Input, input_number}
use Rattle.st_types.specs.declared.symbol.Due.{Due}
use Rattle.st_types.specs.declared.symbol.Due.TheVariants as dues
use Rattle.st_values.specs.Words.{is_word}
use Rattle.st_types.proofs.Places.{position-map}

abbrev pub optional_due : Option Input → Due
optional_due None = dues.Any
optional_due (Some i) = i.due

-- what is asked at a position is asked by the input there
pub due_there : (inputs : List Input) (position : ℕ) → optional_due (slice_get inputs position) ≡ nth_due inputs position
due_there [] position = refl
due_there (i ∷ is) zero = refl
due_there (i ∷ is) (suc position) = due_there is position

-- the number of a name is that of the input
pub input_in : (inputs : List Input) (name : List ℕ) → first_of (input_names inputs) name ≡ input_number inputs name
input_in inputs name = position-map (λ (i : Input). i.name) (λ n. is_word n name) inputs
