use Rattle.st_tokens.proofs.Comments.{comment_at-short}
use Rattle.std.proofs.Common.{sym, ◌∙◌}
use Rattle.st_tokens.proofs.comment.comment_at.Goals as goal

pub returns : goal.returns
returns c = sym (comment_at-short c.loop-rest.line c.loop-rest.rest.now c.in_default.len_below) ∙ c.loop-rest.invariant.same
