use Rattle.std.proofs.Common.{◌∙◌, ap, length, sym}
use Rattle.std.proofs.lemmas.List.{length-map}
use Rattle.st_meaning.specs.Wholes.{Input}
use Rattle.st_emit_expressions.specs.Calls.{passed_in}
use Rattle.st_emit_expressions.specs.Functions.{destinations, sources_in}
use Rattle.st_emit_expressions.specs.Trees.{whole_of}
use Rattle.st_emit_expressions.proofs.Calling.{behind_code}
use Rattle.st_emit_expressions.proofs.Destinations.{sources_length}
use Rattle.st_emit_expressions.proofs.functions.emit_behind.Goals as goal

pub returns : goal.returns
returns c =
    let w = whole_of c.args.scope.now in
    let f = c.args.function.now in
    let all = c.args.arguments.now in
    behind_code f.number c.in_ok-unit.unit (length (passed_in w all)) c.in_ok-count.count c.in_ok-inputs.inputs (sources_in w f all) c.args.code.now c.push-2.new.self c.emit_sources.new.code
    (c.in_ok-unit.ensures.ok ∙ c.number.ensures) (c.in_ok-count.ensures.ok ∙ c.passed_count.ensures) (sym c.are_in_order.ensures ∙ c.if-are_in_order.false)
    (c.in_ok-inputs.ensures.ok ∙ ap length c.initials.ensures ∙ length-map f.inputs (λ (input : Input). input.initial) ∙ sym (sources_length (destinations w f all) 0 f.inputs)) c.in_ok-push.ensures.ok c.in_ok-emit_sources.ensures
