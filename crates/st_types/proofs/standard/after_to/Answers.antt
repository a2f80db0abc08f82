use Rattle.std.proofs.Common.{codes, ap, sym, ◌∙◌}
use Rattle.std.specs.Option.{option_copied}
use Rattle.st_values.specs.Types.{name_of}
use Rattle.st_types.proofs.Prefixes.{rest_after-None, rest_after-Some}
use Rattle.st_types.proofs.standard.after_to.Goals as goal

pub returns-in_err-after_word : goal.returns-in_err-after_word
returns-in_err-after_word c =
    ap option_copied c.from_residual.ensures ∙ rest_after-None (name_of c.args.from) (codes "_TO_") c.args.name.now (sym (rw c.name.ensures at c.after_word.ensures) ∙ ap option_copied c.in_err-after_word.was)

pub returns : goal.returns
returns c =
    c.after_word-2.ensures ∙ rest_after-Some (name_of c.args.from) (codes "_TO_") c.args.name.now c.in_ok-after_word.field-0.now (sym (rw c.name.ensures at c.after_word.ensures) ∙ ap option_copied c.in_ok-after_word.was)
