use Rattle.std.proofs.Common.{sym, subst, ◌∙◌}
use Rattle.std.specs.String.{string_bytes}
use Rattle.st_syntax.specs.Grammar.Texts.{IsTextOf}
use Rattle.st_explain.specs.Messages.{IsMessage, TellsFrom, TellsUnits}
use Rattle.st_explain.proofs.Telling.{in_ok, is_read, message_of_units, message_unread}
use Rattle.st_explain.proofs.explain.explain_most.Goals as goal

pub returns-in-Ok : goal.returns-in-Ok
returns-in-Ok c =
    let units = c.deref.result.now in
    in_ok c.explain_units.result
    (λ m. TellsUnits (TellsFrom c.args.most c.args.file.now c.args.text.now units) c.args.file.now units c.args.main.now (string_bytes m))
    (λ m. IsMessage (TellsFrom c.args.most c.args.file.now c.args.text.now) c.args.file.now c.args.text.now c.args.main.now (string_bytes m))
    c.explain_units.ensures
    (λ m t. message_of_units c.args.most c.args.file.now c.args.text.now c.args.main.now units (string_bytes m) c.text_has_one_answer.ensures.token
    (is_read c.args.text.now units (subst (λ us. IsTextOf c.args.text.now us) (sym c.deref.ensures.value) c.in-Ok.ensures.found) (λ h. let e = c.in-Ok.ensures.long h in cc))
    (λ us r. c.deref.ensures.value ∙ c.in-Ok.ensures.only us r.short r.is) t)

pub returns-in-Err : goal.returns-in-Err
returns-in-Err c =
    message_unread string_bytes c.explain_grammar.result (TellsFrom c.args.most c.args.file.now c.args.text.now) c.args.file.now c.args.text.now c.args.main.now c.in-Err.fault
    (c.explain_grammar.ensures.told c.in-Err.ensures.fault c.in-Err.ensures.stops) c.explain_grammar.ensures.read (λ us r. c.in-Err.ensures.only us r.short r.is)
