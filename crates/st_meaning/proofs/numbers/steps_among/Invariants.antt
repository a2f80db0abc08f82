use Rattle.std.proofs.Common.{◌≡◌, take}
use Rattle.st_meaning.specs.Sketched.{numbers_among}
use Rattle.st_meaning.proofs.numbers.steps_among.Given as goal

-- the numbers of the names so far
abbrev pub invariant-names : goal.invariant-names
invariant-names l = l.numbers.items ≡ numbers_among l.steps (take l.name-index l.names)
