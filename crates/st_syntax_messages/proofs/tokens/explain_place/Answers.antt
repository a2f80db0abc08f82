use Rattle.std.proofs.Common.{◌≡◌, ◌∙◌, sym, subst, Some, None}
use Rattle.st_syntax_messages.specs.Causes.{IsFirstElseIf, IsPlaceCause, early, early_cause, elsewhere, late, late_cause, semicolon}
use Rattle.st_syntax_messages.proofs.Placed.{placed}
use Rattle.st_syntax_messages.proofs.tokens.explain_place.Goals as goal

pub returns-in-Some : goal.returns-in-Some
returns-in-Some c =
    placed _ _ _ _ _ c.deref.result.now _ _ _ _ c.say.result (c.deref.ensures.value ∙ c.in_ok-opened.ensures) c.last_of-last.ensures
    (subst (λ k. IsFirstElseIf c.args.reading.now.tokens.now k c.else_if_from-else_if.result) c.opened_at.ensures c.else_if_from-else_if.ensures)
    (early (subst (λ x. early_cause c.args.reading.now.tokens.now c.args.number c.args.spot x ≡ Some c.in-Some.cause) c.last_of-last.ensures (sym c.early_cause.ensures ∙ c.in-Some.is)))
    c.say.ensures

pub returns-then-branch : goal.returns-then-branch
returns-then-branch c =
    let n = subst (λ x. early_cause c.args.reading.now.tokens.now c.args.number c.args.spot x ≡ None) c.last_of-last.ensures (sym c.early_cause.ensures ∙ c.in_default.is) in
    let l = c.in_ok-lacks_semicolon.ensures in
    let t = c.if-branch.true in
    placed _ _ _ _ _ c.deref.result.now _ _ _ _ c.say-then-branch.result (c.deref.ensures.value ∙ c.in_ok-opened.ensures) c.last_of-last.ensures
    (subst (λ k. IsFirstElseIf c.args.reading.now.tokens.now k c.else_if_from-else_if.result) c.opened_at.ensures c.else_if_from-else_if.ensures)
    (semicolon n (rw t at l)) c.say-then-branch.ensures

pub returns-in-Some-late_cause : goal.returns-in-Some-late_cause
returns-in-Some-late_cause c =
    let n = subst (λ x. early_cause c.args.reading.now.tokens.now c.args.number c.args.spot x ≡ None) c.last_of-last.ensures (sym c.early_cause.ensures ∙ c.in_default.is) in
    let l = c.in_ok-lacks_semicolon.ensures in
    let t = c.if-branch.false in
    let o = c.deref-2.ensures.value in
    let k = c.late_cause.ensures in
    let j = c.in-Some-late_cause.is in
    placed _ _ _ _ _ c.deref.result.now _ _ _ _ c.say-in-Some-late_cause.result (c.deref.ensures.value ∙ c.in_ok-opened.ensures) c.last_of-last.ensures
    (subst (λ k. IsFirstElseIf c.args.reading.now.tokens.now k c.else_if_from-else_if.result) c.opened_at.ensures c.else_if_from-else_if.ensures)
    (late n (rw t at l)
    (subst (λ x. late_cause c.args.reading.now.tokens.now c.args.number x c.else_if_from-else_if.result ≡ Some c.in-Some-late_cause.cause) (o ∙ sym c.deref.ensures.value) (sym k ∙ j)))
    c.say-in-Some-late_cause.ensures

pub returns : goal.returns
returns c =
    let n = subst (λ x. early_cause c.args.reading.now.tokens.now c.args.number c.args.spot x ≡ None) c.last_of-last.ensures (sym c.early_cause.ensures ∙ c.in_default.is) in
    let l = c.in_ok-lacks_semicolon.ensures in
    let t = c.if-branch.false in
    let k = subst (λ x. late_cause c.args.reading.now.tokens.now c.args.number x c.else_if_from-else_if.result ≡ None) (c.deref-2.ensures.value ∙ sym c.deref.ensures.value) (sym c.late_cause.ensures ∙ c.in_default-late_cause.is) in
    placed _ _ _ _ _ c.deref.result.now _ _ _ _ c.say-2.result (c.deref.ensures.value ∙ c.in_ok-opened.ensures) c.last_of-last.ensures
    (subst (λ k. IsFirstElseIf c.args.reading.now.tokens.now k c.else_if_from-else_if.result) c.opened_at.ensures c.else_if_from-else_if.ensures)
    (subst (λ x. IsPlaceCause c.args.reading.now.text.now c.args.reading.now.lexemes.now c.args.reading.now.tokens.now c.args.number c.args.spot c.deref.result.now c.else_if_from-else_if.result x c.as_str-named.result.now)
    (sym c.elsewhere_cause.ensures) (elsewhere n (rw t at l) k))
    c.say-2.ensures
