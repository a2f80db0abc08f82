use Rattle.std.proofs.Common.{subst, arith}
use Rattle.st_types.specs.Walks.{AreMarked}
use Rattle.st_types.proofs.WalkSteps.{all_answered}
use Rattle.st_types.proofs.walk.bases_of.Goals as goal

pub returns : goal.returns
returns c =
    all_answered c.args.links.now c.loop-unit.marks.items (subst (AreMarked c.args.links.now c.loop-unit.marks.items) c.loop-unit.invariant.empty c.loop-unit.invariant.marked)
    (λ i below. c.loop-unit.invariant.met i (omega (arith, below, c.loop-unit-test.false))) c.known_bases.result (rw c.deref.ensures.value at c.known_bases.ensures)
