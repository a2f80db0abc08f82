use Rattle.std.proofs.Common.{◌≡◌, ◌∙◌, ℕ, Bool, List, false, ap, length, map, replicate, sym}
use Rattle.st_values.specs.declared.value.Value.{Value}
use Rattle.st_memory.specs.Memory.{Content}
use Rattle.st_memory.specs.Packed.{mark_bytes, marked}
use Rattle.st_memory.proofs.Encoded.{holds_encoded, says_encoded}
use Rattle.st_memory.proofs.packed.PackedMemory.fresh.Goals as goal

abbrev made : List Value → List Bool → Content
made values forced = record { values = values; forced = forced }

pub returns-clause-over : goal.returns-clause-over
returns-clause-over c = rw (c.with.ensures.bytes, c.with.ensures.marks, c.with.ensures.rows) (record {
  packed = record {
    held = holds_encoded c.args.layout.now (map (λ leaf. leaf.initial) c.args.layout.now) c.in_ok-bytes.bytes.items c.in_ok-bytes.ensures.fitting c.in_ok-bytes.ensures.bytes;
    count = c.in_ok-marks.ensures.count ∙ ap mark_bytes c.len.ensures.value;
  };
  rows' = c.in_ok-rows.ensures;
  forced' = c.with.ensures.forced;
})

pub returns-clause-initial : goal.returns-clause-initial
returns-clause-initial c =
    let values = says_encoded c.args.layout.now (map (λ leaf. leaf.initial) c.args.layout.now) c.in_ok-bytes.bytes.items c.in_ok-bytes.ensures.fitting c.in_ok-bytes.ensures.bytes in
    let forced : marked (length c.args.layout.now) c.in_ok-marks.marks.items ≡ replicate (length c.args.layout.now) false =
    ap (λ (n : ℕ). marked n c.in_ok-marks.marks.items) (sym c.len.ensures.value) ∙ (c.in_ok-marks.ensures.marks ∙ ap (λ (n : ℕ). replicate n false) c.len.ensures.value) in
    rw (c.with.ensures.bytes, c.with.ensures.marks)
    (ap (λ (them : List Value). made them (marked (length c.args.layout.now) c.in_ok-marks.marks.items)) values ∙ ap (made (map (λ leaf. leaf.initial) c.args.layout.now)) forced)
