use Rattle.std.proofs.Common.{length}
use Rattle.st_types.specs.Walks.{IsUp, KeepsMet}
use Rattle.st_types.proofs.walk.ascend.Given as goal

-- the path leads to a unit that stands for the type at hand
abbrev pub invariant-steps : goal.invariant-steps
invariant-steps l = record {
  up : IsUp l.links l.marks.items l.path.items l.base;
  keeps : KeepsMet l.fn.marks.items l.marks.items;
}

-- what is left of the path
abbrev pub decreases-steps : goal.decreases-steps
decreases-steps l = length l.path.items
