use Rattle.std.proofs.Common.{◌≡◌, ◌++◌, List, OnOk, reverse, sym, ◌∙◌, ap, subst}
use Rattle.std.proofs.lemmas.Result.{on_ok_weaker}
use Rattle.st_meaning.specs.Typing.{inputs_of, outputs_of}
use Rattle.st_tree.specs.declared.tree.expression.Argument.{Argument}
use Rattle.st_code.specs.Code.{Line, at, moves_code, plain}
use Rattle.st_code.specs.declared.instr.Instr.TheVariants.{Step}
use Rattle.st_emit_expressions.specs.Trees.{whole_of}
use Rattle.st_emit_expressions.proofs.Before.{before_code}
use Rattle.st_emit.proofs.Invoking.{called, not_called}
use Rattle.st_emit.proofs.invocations.emit_invocation.Goals as goal

pub returns-in_default : goal.returns-in_default
returns-in_default c =
    subst (λ l. OnOk c.push.result (c.push.new.self ≡ c.args.code.now ++ reverse l))
    (sym (not_called (whole_of c.args.scope.now) c.args.call.now (sym c.instance.ensures ∙ c.in_default.is)))
    c.push.ensures.ok

pub returns : goal.returns
returns c =
    let w = whole_of c.args.scope.now in
    let name = c.args.call.now.name in
    let base = c.args.code.now in
    let xs = c.as_slice-arguments.result.now in
    let i = c.in-Some.block in
    let inputs = moves_code w.variables (inputs_of w name.spelling xs) in
    let outputs = moves_code w.variables (outputs_of w name.spelling xs) in
    let step = at name.position.line Step in
    let block = plain i in
    let with_block = before_code base c.emit_moves.new.code c.push-2.new.self outputs block c.in_ok-emit_moves.ensures c.in_ok-push.ensures.ok in
    let with_inputs = before_code base c.push-2.new.self c.emit_moves-2.new.code (block ++ outputs) inputs with_block c.in_ok-emit_moves-2.ensures in
    let with_step = before_code base c.emit_moves-2.new.code c.push-3.new.self (inputs ++ (block ++ outputs)) step with_inputs c.in_ok-push-2.ensures.ok in
    let code_by : List Argument → List Line = (λ ys.
    step ++ (step ++ (moves_code w.variables (inputs_of w name.spelling ys) ++ (block ++ moves_code w.variables (outputs_of w name.spelling ys))))) in
    subst (λ l. OnOk c.push-4.result (c.push-4.new.self ≡ base ++ reverse l))
    (ap code_by c.as_slice-arguments.ensures ∙ sym (called w c.args.call.now i (sym c.instance.ensures ∙ c.in-Some.is)))
    (on_ok_weaker c.push-4.result (before_code base c.push-3.new.self c.push-4.new.self (step ++ (inputs ++ (block ++ outputs))) step with_step) c.push-4.ensures.ok)
