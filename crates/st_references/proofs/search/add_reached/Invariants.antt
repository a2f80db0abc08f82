use Rattle.std.proofs.Common.{not, length, ◌+◌, ◌-◌}
use Rattle.std.specs.List.{count_by}
use Rattle.st_references.proofs.Searching.{IsSearch}
use Rattle.st_references.proofs.search.add_reached.Given as goal

abbrev pub invariant-found : goal.invariant-found
invariant-found l = IsSearch l.graph l.from l.fn.seen.items l.seen.items l.fn.found.items l.found.items l.next

abbrev pub decreases-found : goal.decreases-found
decreases-found l = count_by not l.seen.items + (length l.found.items - l.next)
