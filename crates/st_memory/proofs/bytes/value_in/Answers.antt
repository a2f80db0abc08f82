use Rattle.std.proofs.Common.{◌∙◌, ℤ, ap, rules}
use Rattle.std.specs.Int.{w128}
use Rattle.std.proofs.lemmas.Int.{to_z-of_z}
use Rattle.st_values.specs.declared.elem.Elem.{Elem}
use Rattle.st_values.specs.declared.value.Value.{Value}
use Rattle.st_memory.proofs.bytes.value_in.Goals as goal

abbrev made : Elem → ℤ → Value
made elem bits = record { elem = elem; bits = bits }

pub returns : goal.returns
returns c = ap (made c.args.elem) (to_z-of_z w128 c.number_in.result (search rules)) ∙ c.number_in.ensures
