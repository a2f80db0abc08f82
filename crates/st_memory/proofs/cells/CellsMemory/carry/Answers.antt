use Rattle.std.proofs.Common.{refl, ap, length, ◌∙◌}
use Rattle.st_memory.specs.Memory.{Content}
use Rattle.st_memory.specs.Moves.{moved, saved}
use Rattle.st_memory.proofs.Moving.{moved_content_fits}
use Rattle.st_layout.proofs.Paired.{sources_below}
use Rattle.st_memory.proofs.cells.CellsMemory.carry.Goals as goal

pub carried_values-requires-clause-below : goal.carried_values-requires-clause-below
carried_values-requires-clause-below c =
    sources_below c.args.old.now c.args.new.now c.args.plan.now (length c.args.old.now) c.requires.plan refl

pub moved_forces-requires : goal.moved_forces-requires
moved_forces-requires c =
    rw c.sources.ensures (sources_below c.args.old.now c.args.new.now c.args.plan.now _ c.requires.plan (ap length c.deref-2.ensures.value ∙ c.requires.over.forced))

pub returns-clause-moved : goal.returns-clause-moved
unfolding moved
returns-clause-moved c = rw (c.in_ok-values.ensures.values, c.in_ok-forced.ensures, c.sources.ensures, c.deref.ensures.value, c.deref-2.ensures.value) refl

pub returns-clause-saved : goal.returns-clause-saved
unfolding saved
returns-clause-saved c = rw (c.in_ok-bytes.ensures, c.in_ok-numbers.ensures, c.deref-3.ensures.value, c.deref-4.ensures.value) refl

pub returns-clause-over : goal.returns-clause-over
returns-clause-over c =
    let content : Content = record { values = c.args.self.now.values.items; forced = c.args.self.now.forced.items } in
    rw (returns-clause-moved c) (moved_content_fits c.args.old.now c.args.new.now c.args.plan.now content c.requires.plan c.in_ok-values.ensures.sound.initial c.requires.over)
