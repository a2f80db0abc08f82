use Rattle.st_devices.proofs.WordLemmas.{words_of-skip, no_blank_first}
use Rattle.st_devices.proofs.words.skip_blanks.Goals as goal

pub returns-clause-words : goal.returns-clause-words
returns-clause-words c = rw (c.split_at.ensures.back, c.blank_len.ensures.value) (words_of-skip c.args.text.now)

pub returns-clause-first : goal.returns-clause-first
returns-clause-first c = rw (c.split_at.ensures.back, c.blank_len.ensures.value) (no_blank_first c.args.text.now)
