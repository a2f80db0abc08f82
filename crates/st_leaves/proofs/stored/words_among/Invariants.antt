use Rattle.std.proofs.Common.{◌≡◌, take}
use Rattle.st_leaves.specs.Associated.{names_among}
use Rattle.st_leaves.specs.Charts.{spelled}
use Rattle.st_leaves.proofs.stored.words_among.Given as goal

-- of the words so far
abbrev pub invariant-words : goal.invariant-words
invariant-words l = spelled l.among.items ≡ names_among l.names (spelled (take l.word-index l.words))
