use Rattle.std.proofs.Common.{sym, ◌∙◌}
use Rattle.st_messages.proofs.Skips.{after_comment-short}
use Rattle.st_messages.proofs.skip.after_comment.Goals as goal

pub returns : goal.returns
returns c = sym (after_comment-short c.loop-rest.rest.now c.in_default.len_below) ∙ c.loop-rest.invariant
