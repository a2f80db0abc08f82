-- The functions of a text, as their callers see them (2.5.1).
use Rattle.std.specs.Prelude.{ℕ, List, Option}
use Rattle.std.specs.List.{position}
use Rattle.st_values.specs.Words.{is_word}
use Rattle.st_values.specs.declared.elem.Elem.{Elem}
use Rattle.st_types.specs.declared.symbol.Due.{Due}

-- an input of a function
pub record Input : Type 0 where
  pub name : List ℕ
  pub due : Due

-- a function of the text: its result, and its inputs in order
pub record Signature : Type 0 where
  pub result : Elem
  pub inputs : List Input

abbrev pub signature : Elem → List Input → Signature
signature result inputs = record { result = result; inputs = inputs }

-- the number of the first input of this name
abbrev pub input_number : List Input → List ℕ → Option ℕ
input_number inputs name = position (λ i. is_word i.name name) inputs
