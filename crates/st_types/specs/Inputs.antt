-- Inputs of functions, as tables hold them.
use Rattle.std.specs.Prelude.{ℕ, ◌≡◌, List, map}
use Rattle.st_types.specs.Signatures.{Input}
use Rattle.st_types.specs.declared.inputs.Inputs.TheInside.{Inside}
use Rattle.st_types.specs.declared.symbol.Due.{Due}

abbrev pub input : List ℕ → Due → Input
input name due = record { name = name; due = due }

abbrev pub input_names : List Input → List (List ℕ)
input_names inputs = map (λ i. i.name) inputs

-- the table has the names of the inputs
pub record AreInputs (inputs : Inside) : Type 0 where
  pub names : inputs.names ≡ input_names inputs.items.items
