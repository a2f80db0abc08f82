use Rattle.std.proofs.Common.{◌∙◌, [], length, subst}
use Rattle.std.specs.Prelude.{IfOk}
use Rattle.st_messages.specs.Sayings.{AreWordsFor}
use Rattle.st_syntax_messages.specs.Causes.{IsFirstElseIf, texts}
use Rattle.st_syntax_messages.specs.Rows.{rows}
use Rattle.st_syntax_messages.proofs.Placed.{ended}
use Rattle.st_syntax_messages.proofs.tokens.explain_end.Goals as goal

pub returns : goal.returns
returns c =
    let text = c.args.reading.now.text.now in
    let lexemes = c.args.reading.now.lexemes.now in
    let tokens = c.args.reading.now.tokens.now in
    let else_if = c.else_if_from-else_if.result in
    ended text lexemes tokens c.deref.result.now c.last_of-last.result else_if c.say.result (c.deref.ensures.value ∙ c.in_ok-opened.ensures) c.last_of-last.ensures
    (subst (λ k. IsFirstElseIf tokens k else_if) c.opened_at.ensures c.else_if_from-else_if.ensures)
    (subst (λ x. IfOk c.say.result (AreWordsFor rows x (texts text lexemes tokens (length tokens) c.last_of-last.result else_if []))) c.end_cause.ensures c.say.ensures)
