use Rattle.std.proofs.Common.{◌∙◌, Bool, List, ap, length, refl}
use Rattle.st_values.specs.declared.value.Value.{Value}
use Rattle.st_memory.specs.Memory.{Content, Fits}
use Rattle.st_memory.specs.Moves.{unmoved, unmoved_values}
use Rattle.st_memory.specs.Packed.{content_in, marked, packed_fits}
use Rattle.st_memory.proofs.Encoded.{holds_encoded, says_encoded}
use Rattle.st_memory.proofs.GivenBack.{unmoved_fits}
use Rattle.st_layout.proofs.Paired.{targets_below}
use Rattle.st_memory.proofs.packed.PackedMemory.back.Goals as goal

abbrev made : List Value → List Bool → Content
made values forced = record { values = values; forced = forced }

pub returned_bytes-requires-clause-below : goal.returned_bytes-requires-clause-below
returned_bytes-requires-clause-below c = targets_below c.args.old.now c.args.new.now c.args.plan.now (length c.args.new.now) c.requires.plan refl

pub returned_marks-requires-clause-below : goal.returned_marks-requires-clause-below
returned_marks-requires-clause-below c = targets_below c.args.old.now c.args.new.now c.args.plan.now (length c.args.new.now) c.requires.plan refl

pub returns-clause-over : goal.returns-clause-over
unfolding unmoved
returns-clause-over c =
    let content : Content = content_in c.args.new.now c.args.self.now.bytes.items c.args.self.now.marks.items in
    let fits : Fits c.args.old.now (unmoved c.args.old.now c.args.plan.now content c.args.dropped.now) =
    unmoved_fits c.args.old.now c.args.new.now c.args.plan.now c.requires.plan content c.args.dropped.now (packed_fits c.args.new.now c.args.self.now.bytes.items c.args.self.now.marks.items c.requires.over.packed) c.requires.holds in
    let are = rw (c.deref.ensures.value, c.as_slice.ensures) at c.in_ok-bytes.ensures in
    rw (c.with.ensures.bytes, c.with.ensures.marks, c.with.ensures.rows) (record {
      packed = record {
        held = holds_encoded c.args.old.now (unmoved_values content.values c.args.old.now c.args.plan.now.targets c.args.dropped.now.bytes) c.in_ok-bytes.bytes.items fits.types are;
        count = c.in_ok-marks.ensures.count;
      };
      rows' = c.in_ok-rows.ensures;
      forced' = c.with.ensures.forced;
    })

pub returns-clause-unmoved : goal.returns-clause-unmoved
unfolding unmoved
returns-clause-unmoved c =
    let content : Content = content_in c.args.new.now c.args.self.now.bytes.items c.args.self.now.marks.items in
    let fits : Fits c.args.old.now (unmoved c.args.old.now c.args.plan.now content c.args.dropped.now) =
    unmoved_fits c.args.old.now c.args.new.now c.args.plan.now c.requires.plan content c.args.dropped.now (packed_fits c.args.new.now c.args.self.now.bytes.items c.args.self.now.marks.items c.requires.over.packed) c.requires.holds in
    let are = rw (c.deref.ensures.value, c.as_slice.ensures) at c.in_ok-bytes.ensures in
    let values = says_encoded c.args.old.now (unmoved_values content.values c.args.old.now c.args.plan.now.targets c.args.dropped.now.bytes) c.in_ok-bytes.bytes.items fits.types are in
    let forced = rw (c.deref-2.ensures.value, c.as_slice-2.ensures) at c.in_ok-marks.ensures.marks in
    rw (c.with.ensures.bytes, c.with.ensures.marks)
    (ap (λ (them : List Value). made them (marked (length c.args.old.now) c.in_ok-marks.marks.items)) values
    ∙ ap (made (unmoved_values content.values c.args.old.now c.args.plan.now.targets c.args.dropped.now.bytes)) forced)
