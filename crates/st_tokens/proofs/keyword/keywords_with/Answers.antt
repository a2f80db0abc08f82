use Rattle.std.proofs.Common.{◌∙◌, sym}
use Rattle.st_tokens.specs.Words.{spellings}
use Rattle.st_tokens.proofs.keyword.keywords_with.Goals as goal

pub returns : goal.returns
unfolding spellings
returns c = c.rows_with.ensures.all_with ∙ sym c.part.ensures
