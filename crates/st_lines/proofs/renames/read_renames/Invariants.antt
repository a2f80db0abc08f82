use Rattle.std.proofs.Common.{◌≡◌, ◌++◌, length}
use Rattle.st_devices.specs.Words.{words_of}
use Rattle.st_lines.specs.Requests.{renames_of}
use Rattle.st_lines.proofs.renames.read_renames.Given as goal

abbrev pub invariant-loop-word : goal.invariant-loop-word
invariant-loop-word l = renames_of (words_of l.fn.words) ≡ l.renames.items ++ renames_of (words_of l.rest)

abbrev pub decreases-loop-word : goal.decreases-loop-word
decreases-loop-word l = length l.rest
