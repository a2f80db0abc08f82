use Rattle.std.proofs.Common.{◌≡◌, ◌<◌, ◌∙◌, IfSome, length, position, subst, sym}
use Rattle.st_meaning.specs.Wholes.{Called, Input}
use Rattle.st_values.specs.Words.{is_word}
use Rattle.st_places.proofs.Callables.{how_many_inputs, input_number}
use Rattle.st_places.proofs.function.Function.input.Goals as goal

pub returns-clause-number : goal.returns-clause-number
returns-clause-number c =
    subst (λ (f : Called). c.find.result ≡ position (λ (i : Input). is_word i.name c.args.name.now) f.inputs) c.self.view_is
    (c.find.ensures.number ∙ input_number c.self.inside.names c.self.inside.initials c.args.name.now c.self.invariant)

pub returns-clause-within : goal.returns-clause-within
returns-clause-within c =
    subst (λ (f : Called). IfSome c.find.result (λ i. i < length f.inputs)) c.self.view_is
    (subst (λ n. IfSome c.find.result (λ i. i < n)) (sym (how_many_inputs c.self.inside.names c.self.inside.initials c.self.invariant)) c.find.ensures.within)
