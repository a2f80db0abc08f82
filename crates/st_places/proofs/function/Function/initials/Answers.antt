use Rattle.std.proofs.Common.{◌≡◌, ◌∙◌, map, subst}
use Rattle.st_meaning.specs.Wholes.{Called, Input}
use Rattle.st_places.proofs.Callables.{values_of_inputs}
use Rattle.st_places.proofs.function.Function.initials.Goals as goal

pub returns : goal.returns
returns c =
    subst (λ (f : Called). c.as_slice.result.now ≡ map (λ (i : Input). i.initial) f.inputs) c.self.view_is
    (c.as_slice.ensures ∙ values_of_inputs c.self.inside.names c.self.inside.initials c.self.invariant)
