use Rattle.std.proofs.Common.{◌∙◌, subst, sym}
use Rattle.st_values.specs.Words.{AreWordBytes}
use Rattle.st_tokens.proofs.Runs.{run_words}
use Rattle.st_tokens.proofs.run.split_run.Goals as goal

pub returns-clause-word : goal.returns-clause-word
returns-clause-word c = subst AreWordBytes (sym (c.split_at.ensures.front ∙ c.run_len.ensures.prefix)) (run_words c.args.text.now)
