use Rattle.std.proofs.Common.{◌∙◌, ℕ, Bool, List, Option, ap, length, map, refl, sym}
use Rattle.std.specs.List.{zip}
use Rattle.st_values.specs.declared.value.Value.{Value}
use Rattle.st_memory.specs.Memory.{Content, Fits}
use Rattle.st_memory.specs.Moves.{moved, moved_pair, saved}
use Rattle.st_memory.specs.Packed.{content_in, mark_bytes, marked, packed_fits}
use Rattle.st_memory.proofs.Encoded.{holds_encoded, says_encoded}
use Rattle.st_memory.proofs.Moving.{moved_content_fits}
use Rattle.st_layout.proofs.Paired.{sources_below}
use Rattle.st_memory.proofs.packed.PackedMemory.carry.Goals as goal

abbrev made : List Value → List Bool → Content
made values forced = record { values = values; forced = forced }

pub carried_bytes-requires-clause-below : goal.carried_bytes-requires-clause-below
carried_bytes-requires-clause-below c = sources_below c.args.old.now c.args.new.now c.args.plan.now (length c.args.old.now) c.requires.plan refl

pub moved_marks-requires-clause-below : goal.moved_marks-requires-clause-below
moved_marks-requires-clause-below c =
    rw c.sources.ensures (sources_below c.args.old.now c.args.new.now c.args.plan.now (length c.args.old.now) c.requires.plan refl)

pub returns-clause-over : goal.returns-clause-over
unfolding moved
returns-clause-over c =
    let content : Content = content_in c.args.old.now c.args.self.now.bytes.items c.args.self.now.marks.items in
    let fits : Fits c.args.new.now (moved c.args.new.now c.args.plan.now content) =
    moved_content_fits c.args.old.now c.args.new.now c.args.plan.now content c.requires.plan c.in_ok-bytes.ensures.sound.initial (packed_fits c.args.old.now c.args.self.now.bytes.items c.args.self.now.marks.items c.requires.over.packed) in
    let are = rw c.deref.ensures.value at c.in_ok-bytes.ensures.bytes in
    rw (c.with.ensures.bytes, c.with.ensures.marks, c.with.ensures.rows) (record {
      packed = record {
        held = holds_encoded c.args.new.now (map (moved_pair c.args.plan.now.sources content.values) (zip c.args.new.now c.args.plan.now.sources)) c.in_ok-bytes.bytes.items fits.types are;
        count = c.in_ok-marks.ensures.count
            ∙ (ap (λ (them : List (Option ℕ)). mark_bytes (length them)) c.sources.ensures ∙ ap mark_bytes c.requires.plan.sources);
      };
      rows' = c.in_ok-rows.ensures;
      forced' = c.with.ensures.forced;
    })

pub returns-clause-moved : goal.returns-clause-moved
unfolding moved
returns-clause-moved c =
    let content : Content = content_in c.args.old.now c.args.self.now.bytes.items c.args.self.now.marks.items in
    let fits : Fits c.args.new.now (moved c.args.new.now c.args.plan.now content) =
    moved_content_fits c.args.old.now c.args.new.now c.args.plan.now content c.requires.plan c.in_ok-bytes.ensures.sound.initial (packed_fits c.args.old.now c.args.self.now.bytes.items c.args.self.now.marks.items c.requires.over.packed) in
    let are = rw c.deref.ensures.value at c.in_ok-bytes.ensures.bytes in
    let values = says_encoded c.args.new.now (map (moved_pair c.args.plan.now.sources content.values) (zip c.args.new.now c.args.plan.now.sources)) c.in_ok-bytes.bytes.items fits.types are in
    let told = rw (c.sources.ensures, c.deref-2.ensures.value) at c.in_ok-marks.ensures.marks in
    let forced = ap (λ (n : ℕ). marked n c.in_ok-marks.marks.items) (sym c.requires.plan.sources) ∙ told in
    rw (c.with.ensures.bytes, c.with.ensures.marks)
    (ap (λ (them : List Value). made them (marked (length c.args.new.now) c.in_ok-marks.marks.items)) values
    ∙ ap (made (map (moved_pair c.args.plan.now.sources content.values) (zip c.args.new.now c.args.plan.now.sources))) forced)

pub returns-clause-saved : goal.returns-clause-saved
unfolding saved
returns-clause-saved c = rw (c.in_ok-dropped.ensures, c.in_ok-numbers.ensures, c.deref-3.ensures.value, c.deref-4.ensures.value) refl
