use Rattle.std.proofs.Common.{◌<◌, length, sym, ◌∙◌}
use Rattle.std.proofs.lemmas.Grind.{common_steps}
use Rattle.std.proofs.Common.{arith}
use Rattle.st_devices.proofs.WordLemmas.{words_of-word}
use Rattle.st_devices.proofs.words.split_word.Goals as goal

pub returns-clause-words : goal.returns-clause-words
returns-clause-words c =
    let text = c.skip_blanks-text.result.now in
    let some : 0 < length text = grind (arith, common_steps) in
    sym c.skip_blanks-text.ensures.words ∙ rw (c.split_at.ensures.front, c.split_at.ensures.back, c.word_len.ensures.value) (words_of-word text some c.skip_blanks-text.ensures.first)
