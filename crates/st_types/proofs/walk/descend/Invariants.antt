use Rattle.std.proofs.Common.{◌≡◌, ◌⊎◌}
use Rattle.st_types.specs.Walks.{IsDown, IsMet, KeepsMet, unmet}
use Rattle.st_types.proofs.walk.descend.Given as goal

-- the path leads to the unit at hand
abbrev pub invariant-steps : goal.invariant-steps
invariant-steps l = record {
  down : IsDown l.links l.marks.items l.path.items l.at;
  started : IsMet l.marks.items l.from ⊎ (l.at ≡ l.from);
  keeps : KeepsMet l.fn.marks.items l.marks.items;
}

-- units that weren't met
abbrev pub decreases-steps : goal.decreases-steps
decreases-steps l = unmet l.marks.items
