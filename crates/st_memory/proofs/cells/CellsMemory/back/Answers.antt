use Rattle.std.proofs.Common.{refl, ap, length, ◌∙◌}
use Rattle.st_memory.specs.Memory.{Content}
use Rattle.st_memory.specs.Moves.{unmoved}
use Rattle.st_memory.proofs.GivenBack.{unmoved_fits}
use Rattle.st_layout.proofs.Paired.{targets_below}
use Rattle.st_memory.proofs.cells.CellsMemory.back.Goals as goal

pub returned_values-requires-clause-below : goal.returned_values-requires-clause-below
returned_values-requires-clause-below c =
    targets_below c.args.old.now c.args.new.now c.args.plan.now _ c.requires.plan (ap length c.deref.ensures.value ∙ c.requires.over.values)

pub returned_forces-requires-clause-below : goal.returned_forces-requires-clause-below
returned_forces-requires-clause-below c =
    targets_below c.args.old.now c.args.new.now c.args.plan.now _ c.requires.plan (ap length c.deref-2.ensures.value ∙ c.requires.over.forced)

pub returns-clause-unmoved : goal.returns-clause-unmoved
unfolding unmoved
returns-clause-unmoved c =
    rw (c.in_ok-values.ensures, c.in_ok-forced.ensures, c.deref.ensures.value, c.deref-2.ensures.value, c.as_slice.ensures, c.as_slice-2.ensures) refl

pub returns-clause-over : goal.returns-clause-over
returns-clause-over c =
    let content : Content = record { values = c.args.self.now.values.items; forced = c.args.self.now.forced.items } in
    rw (returns-clause-unmoved c) (unmoved_fits c.args.old.now c.args.new.now c.args.plan.now c.requires.plan content c.args.dropped.now c.requires.over c.requires.holds)
