use Rattle.std.proofs.Common.{◌∙◌, [], ◌∷◌, ap, sym}
use Rattle.std.specs.List.{position}
use Rattle.st_values.specs.Words.{is_word}
use Rattle.st_meaning.specs.Typing.{argument_typed, go_to}
use Rattle.st_meaning.specs.Wholes.{Input}
use Rattle.st_emit_expressions.specs.Trees.{whole_of}
use Rattle.st_emit_expressions.proofs.Trees.{input_is}
use Rattle.st_emit_expressions.proofs.functions.destination.Goals as goal

pub returns-in-Input : goal.returns-in-Input
returns-in-Input c =
    let w = whole_of c.args.scope.now in
    let inputs = c.args.function.now.inputs in
    ap (λ a. go_to inputs c.args.place (argument_typed w a)) c.in-Input.is ∙ ap (go_to inputs c.args.place) (input_is w c.in-Input.name c.in-Input.field-1)
    ∙ ap (λ n. position (λ (i : Input). is_word i.name n) inputs ∷ []) (sym c.as_slice.ensures) ∙ ap (λ o. o ∷ []) (sym c.input.ensures.number)
