-- Calls of functions of the text (2.5.1).
use Rattle.std.specs.Prelude.{◌≡◌, ℕ, ◌<◌, nat_lt, ◌&&◌, if◌then◌else◌, List, [], ◌∷◌, length, get_or, slice_set, Option, Some, None}
use Rattle.std.specs.List.{position}
use Rattle.std.specs.Option.{is_none}
use Rattle.st_values.specs.declared.elem.Elem.{Elem}
use Rattle.st_tree.specs.declared.tree.expression.Argument.{Argument}
use Rattle.st_types.specs.OwnTypes.{or_lint}
use Rattle.st_meaning.specs.Terms.{Source}
use Rattle.st_meaning.specs.Typing.{go_to, is_number, sources_from}
use Rattle.st_meaning.specs.Wholes.{Called, Input, Whole}
use Rattle.st_emit_expressions.specs.Calls.{passed_in}

-- the type that is due of an argument with this own type, which goes to this input
abbrev pub input_type : Option Elem → Option Input → Elem
input_type own None = or_lint own
input_type own (Some i) = i.initial.elem

-- to which inputs the arguments go
abbrev pub destinations : Whole → Called → List Argument → List (Option ℕ)
destinations w f arguments = go_to f.inputs 0 (passed_in w arguments)

-- where the values of the inputs are from
abbrev pub sources_in : Whole → Called → List Argument → List Source
sources_in w f arguments = sources_from (destinations w f arguments) 0 f.inputs

-- of an argument that may have no value
abbrev pub destination_list : Option (Option ℕ) → List (Option ℕ)
destination_list None = []
destination_list (Some to) = to ∷ []

-- with the argument of this place noted for an input, unless there is an earlier one
abbrev pub first_noted : List (Option ℕ) → Option ℕ → ℕ → List (Option ℕ)
first_noted all None place = all
first_noted all (Some n) place = if nat_lt n (length all) && is_none (get_or all n None) then slice_set all n (Some place) else all

-- of each input the first argument that goes to it
pub record AreFirst (inputs : ℕ) (to : List (Option ℕ)) (all : List (Option ℕ)) : Type 0 where
  pub number : length all ≡ inputs
  pub each : (n : ℕ) → n < inputs → get_or all n None ≡ position (is_number n) to
