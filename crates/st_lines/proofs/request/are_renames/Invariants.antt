use Rattle.std.proofs.Common.{◌≡◌, length}
use Rattle.std.specs.List.{list_all}
use Rattle.st_devices.specs.Words.{words_of}
use Rattle.st_lines.specs.Requests.{has_equals}
use Rattle.st_lines.proofs.request.are_renames.Given as goal

abbrev pub invariant-loop-word : goal.invariant-loop-word
invariant-loop-word l = list_all has_equals (words_of l.fn.words) ≡ list_all has_equals (words_of l.rest)

abbrev pub decreases-loop-word : goal.decreases-loop-word
decreases-loop-word l = length l.rest
