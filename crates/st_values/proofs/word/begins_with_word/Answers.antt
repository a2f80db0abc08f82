use Rattle.std.proofs.Common.{sym}
use Rattle.st_values.proofs.WordLemmas.{begins_with_word-short}
use Rattle.st_values.proofs.word.begins_with_word.Goals as goal

pub returns-then-text-word-clause-value : goal.returns-then-text-word-clause-value
returns-then-text-word-clause-value c = sym (begins_with_word-short c.args.word.now c.args.text.now c.if-text-word.true)
