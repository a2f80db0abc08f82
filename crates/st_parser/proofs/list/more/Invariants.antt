use Rattle.std.proofs.Common.{◌≤◌, length}
use Rattle.st_parser.proofs.Loops.{EachLeft}
use Rattle.st_parser.proofs.list.more.Given as goal

abbrev pub invariant-items : goal.invariant-items
invariant-items g l = record {
  left : EachLeft (goal.B-post g l.begins) (goal.F-post g l.item) l.initial.found l.initial.ts l.found l.ts;
  shorter : length l.ts ≤ length l.initial.ts;
}

abbrev pub decreases-items : goal.decreases-items
decreases-items g l = length l.ts
