use Rattle.std.proofs.Common.{◌≡◌, length}
use Rattle.st_messages.specs.Skips.{after_continued}
use Rattle.st_messages.proofs.skip.after_continued.Given as goal

abbrev pub invariant-loop-rest : goal.invariant-loop-rest
invariant-loop-rest l = after_continued l.rest ≡ after_continued l.text

abbrev pub decreases-loop-rest : goal.decreases-loop-rest
decreases-loop-rest l = length l.rest
