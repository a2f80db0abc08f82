use Rattle.std.proofs.Common.{◌≡◌, map, take}
use Rattle.st_leaves.specs.Charts.{spelled}
use Rattle.st_meaning.specs.Sketched.{number_among}
use Rattle.st_meaning.proofs.parts.numbers_of.Given as goal

-- of the words so far
abbrev pub invariant-words : goal.invariant-words
invariant-words l = l.numbers.items ≡ map (number_among l.names) (spelled (take l.word-index l.words))
