use Rattle.std.proofs.Common.{◌∙◌, ap, sym}
use Rattle.std.specs.Option.{option_copied}
use Rattle.st_tokens.specs.Words.{keyword_in, keywords_with}
use Rattle.st_tokens.proofs.Keywords.{empty_no_keyword, keyword_by_letter}
use Rattle.st_tokens.proofs.keyword.Keyword.of.Goals as goal

pub returns-in_err-first : goal.returns-in_err-first
returns-in_err-first c = c.from_residual.ensures ∙ sym (empty_no_keyword c.args.word.now (sym (ap option_copied c.in_err-first.was) ∙ c.first.ensures.value))

pub returns : goal.returns
returns c = c.keyword_in.ensures
    ∙ ap (λ rows. keyword_in rows c.args.word.now) (sym c.keywords_with.ensures ∙ ap keywords_with c.to_ascii_lowercase.ensures.value)
    ∙ keyword_by_letter c.args.word.now c.in_ok-first.first.now (sym (ap option_copied c.in_ok-first.was) ∙ c.first.ensures.value)
