use Rattle.std.proofs.Common.{◌≡◌, ◌≤◌, ◌+◌, ◌-◌, ◌++◌, ◌∙◌, OnOk, length, ap, refl, subst, arith, reverse}
use Rattle.std.proofs.lemmas.Result.{on_ok_weaker}
use Rattle.std.specs.Prelude.{slice_set}
use Rattle.st_tree.specs.declared.tree.statement.CaseStatement.{out-CaseStatement}
use Rattle.st_tree.specs.declared.tree.statement.IfStatement.{out-IfStatement}
use Rattle.st_meaning.specs.Typing.{body_of, condition}
use Rattle.st_code.specs.Code.{at, command_code, commands_code, plain, term_code}
use Rattle.st_code.specs.declared.instr.Instr.TheVariants.{Drop, GoBack, Leave, Next}
use Rattle.st_emit_expressions.specs.Trees.{whole_of}
use Rattle.st_emit_expressions.proofs.Before.{grown}
use Rattle.st_emit.proofs.Commands.{branch_step, case_command, case_step, count_done, in_loop, repeat_command, statement_step, turns_done, while_command}
use Rattle.st_emit.proofs.Invoking.{call_code}
use Rattle.st_emit.proofs.+statement.Goals as goal

pub statements::emit_statements-loop-i-preserved : goal.statements::emit_statements-loop-i-preserved
statements::emit_statements-loop-i-preserved t c =
    record {
      few = omega (arith, c.loop-i.invariant.few);
      code = statement_step (whole_of c.args.scope.now) c.args.statements.now c.loop-i.i (c.loop-i.i - 1) c.index-statements-i.result c.args.code.now c.loop-i.code c.emit_statement.new.code c.args.out c.args.end
          (omega (arith, c.loop-i-test.true)) c.loop-i.invariant.few c.index-statements-i.is c.requires.out c.requires.end c.loop-i.invariant.code c.in_ok-emit_statement.ensures;
    }

pub statements::emit_if-loop-i-preserved : goal.statements::emit_if-loop-i-preserved
statements::emit_if-loop-i-preserved t c =
    let w = whole_of c.args.scope.now in
    let n = length c.args.code.now in
    record {
      few = omega (arith, c.loop-i.invariant.few);
      code = branch_step w c.as_slice-parts.result.now (commands_code w.variables (body_of w (out-IfStatement c.args.statement.now).otherwise) (n - c.args.out) (n - c.args.end)) c.loop-i.i (c.loop-i.i - 1) c.index-parts-i.result c.args.code.now c.loop-i.code
          c.emit_part.new.code (c.len.result - c.len-start.result) c.args.out c.args.end (omega (arith, c.loop-i-test.true)) c.loop-i.invariant.few c.index-parts-i.is c.requires.out c.requires.end c.loop-i.invariant.code
          (omega (arith, c.len.ensures, c.len-start.ensures)) c.in_ok-emit_part.ensures;
    }

pub cases::emit_case-loop-i-preserved : goal.cases::emit_case-loop-i-preserved
cases::emit_case-loop-i-preserved t c =
    let w = whole_of c.args.scope.now in
    let n = length c.args.code.now in
    record {
      few = omega (arith, c.loop-i.invariant.few);
      code = case_step w c.own_or_lint-elem.result c.as_slice-cases.result.now (plain Drop ++ commands_code w.variables (body_of w (out-CaseStatement c.args.statement.now).otherwise) (n - c.args.out) (n - c.args.end)) c.loop-i.i (c.loop-i.i - 1)
          c.index-cases-i.result c.args.code.now c.loop-i.code c.emit_element.new.code (c.len.result - c.len-start.result) c.args.out c.args.end (omega (arith, c.loop-i-test.true)) c.loop-i.invariant.few c.index-cases-i.is c.requires.out c.requires.end
          c.loop-i.invariant.code (omega (arith, c.len.ensures, c.len-start.ensures)) c.in_ok-emit_element.ensures;
    }

pub statements::emit_statement-returns-in-Call : goal.statements::emit_statement-returns-in-Call
statements::emit_statement-returns-in-Call t c =
    let n = length c.args.code.now in
    subst (λ l. OnOk c.emit_invocation.result (c.emit_invocation.new.code ≡ c.args.code.now ++ reverse l))
    (call_code (whole_of c.args.scope.now) c.args.statement.now c.in-Call.call c.get-in-Call.result.now (n - c.args.out) (n - c.args.end) c.in-Call.is c.get-in-Call.ensures) c.emit_invocation.ensures

pub statements::emit_statement-returns-in-Case : goal.statements::emit_statement-returns-in-Case
statements::emit_statement-returns-in-Case t c =
    let n = length c.args.code.now in
    subst (λ k. OnOk c.emit_case.result (c.emit_case.new.code ≡ c.args.code.now ++ reverse (command_code (whole_of c.args.scope.now).variables k (n - c.args.out) (n - c.args.end))))
    (case_command (whole_of c.args.scope.now) c.args.statement.now c.in-Case.inner c.get-in-Case.result.now c.in-Case.is c.get-in-Case.ensures) c.emit_case.ensures

pub statements::emit_statement-returns-in-While : goal.statements::emit_statement-returns-in-While
statements::emit_statement-returns-in-While t c =
    let n = length c.args.code.now in
    subst (λ k. OnOk c.emit_while.result (c.emit_while.new.code ≡ c.args.code.now ++ reverse (command_code (whole_of c.args.scope.now).variables k (n - c.args.out) (n - c.args.end))))
    (while_command (whole_of c.args.scope.now) c.args.statement.now c.in-While.inner c.get-in-While.result.now c.in-While.is c.get-in-While.ensures) c.emit_while.ensures

pub statements::emit_statement-returns-in-Repeat : goal.statements::emit_statement-returns-in-Repeat
statements::emit_statement-returns-in-Repeat t c =
    let n = length c.args.code.now in
    subst (λ k. OnOk c.emit_repeat.result (c.emit_repeat.new.code ≡ c.args.code.now ++ reverse (command_code (whole_of c.args.scope.now).variables k (n - c.args.out) (n - c.args.end))))
    (repeat_command (whole_of c.args.scope.now) c.args.statement.now c.in-Repeat.inner c.get-in-Repeat.result.now c.in-Repeat.is c.get-in-Repeat.ensures) c.emit_repeat.ensures

pub loops::emit_turns-returns-clause-code : goal.loops::emit_turns-returns-clause-code
loops::emit_turns-returns-clause-code t c =
    let w = whole_of c.args.scope.now in
    let base = c.args.code.now in
    let c1 = c.push.new.self in
    let c2 = c.emit_statements.new.code in
    let start = c.len-start.result in
    let m : start ≡ length base = c.len-start.ensures in
    let end : c.args.end ≤ length base = c.requires in
    let l1 : length c1 ≡ length base + 1 = grown base c1 (at c.args.line (GoBack 0)) c.in_ok-push.ensures.ok in
    let body = commands_code w.variables (body_of w c.args.statements.now) 1 (1 + (length base - c.args.end)) in
    let d = c.len-middle.result - start in
    let back = c.len-2.result - start - 1 in
    turns_done base c1 c2 c.push-2.new.self c.emit_expression.new.code c.set.new.self (term_code w.variables (condition w c.args.test.now)) body c.args.line d back c.args.until
    c.in_ok-push.ensures.ok
    (c.in_ok-emit_statements.ensures ∙ ap (λ r. c1 ++ reverse r) (in_loop w c.args.statements.now (length c1 - start) (length c1 - c.args.end) 1 (1 + (length base - c.args.end)) (omega (arith, m, l1)) (omega (arith, end, l1))))
    (omega (arith, c.len-middle.ensures, m))
    (c.in_ok-push-2.ensures.ok ∙ ap (λ i. c2 ++ plain i) c.skip.ensures)
    c.in_ok-emit_expression.ensures.code
    (omega (arith, c.len-2.ensures, m))
    (c.set.ensures ∙ ap (λ k. slice_set c.emit_expression.new.code k (record { instr = GoBack back; line = c.args.line })) m)

pub loops::emit_count-returns : goal.loops::emit_count-returns
loops::emit_count-returns t c =
    let w = whole_of c.args.scope.now in
    let base = c.args.code.now in
    let c1 = c.push.new.self in
    let c2 = c.push-2.new.self in
    let c3 = c.emit_statements.new.code in
    let start = c.len-start.result in
    let m : start ≡ length c1 = c.len-start.ensures in
    let end : c.args.end ≤ length base = c.requires in
    let l1 : length c1 ≡ length base + 1 = grown base c1 (plain Leave) c.in_ok-push.ensures.ok in
    let l2 : length c2 ≡ length c1 + 1 = grown c1 c2 (at c.args.line (Next c.args.elem c.args.leaf 0)) c.in_ok-push-2.ensures.ok in
    let body = commands_code w.variables (body_of w c.args.statements.now) 1 (2 + (length base - c.args.end)) in
    let past = c.len.result - start in
    on_ok_weaker c.push-5.result (λ e7. count_done base c1 c2 c3 c.set.new.self c.push-3.new.self c.push-4.new.self c.push-5.new.self body c.args.line c.args.leaf past (past - 1) c.args.elem
    c.in_ok-push.ensures.ok c.in_ok-push-2.ensures.ok
    (c.in_ok-emit_statements.ensures ∙ ap (λ r. c2 ++ reverse r) (in_loop w c.args.statements.now (length c2 - start) (length c2 - c.args.end) 1 (2 + (length base - c.args.end)) (omega (arith, m, l2)) (omega (arith, end, l1, l2))))
    (omega (arith, c.len.ensures, m)) refl
    (c.set.ensures ∙ ap (λ k. slice_set c3 k (record { instr = Next c.args.elem c.args.leaf (past - 1); line = c.args.line })) m)
    c.in_ok-push-3.ensures.ok c.in_ok-push-4.ensures.ok e7) c.push-5.ensures.ok
