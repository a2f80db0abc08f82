use Rattle.std.proofs.Common.{◌∙◌, ap, sym}
use Rattle.std.specs.List.{find}
use Rattle.std.specs.Option.{option_copied}
use Rattle.st_values.specs.Types.{name_of}
use Rattle.st_values.specs.Words.{is_word}
use Rattle.st_tokens.specs.Words.{elems_with}
use Rattle.st_tokens.proofs.Keywords.{elem_by_letter, empty_no_elem}
use Rattle.st_tokens.proofs.word.elem_of.Goals as goal

pub returns-in_err-first : goal.returns-in_err-first
returns-in_err-first c = c.from_residual.ensures ∙ sym (empty_no_elem c.args.word.now (sym (ap option_copied c.in_err-first.was) ∙ c.first.ensures.value))

pub returns : goal.returns
returns c = c.elem_in.ensures
    ∙ ap (find (λ elem. is_word (name_of elem) c.args.word.now)) (c.elems_with.ensures ∙ ap elems_with c.to_ascii_lowercase.ensures.value)
    ∙ elem_by_letter c.args.word.now c.in_ok-first.first.now (sym (ap option_copied c.in_ok-first.was) ∙ c.first.ensures.value)
