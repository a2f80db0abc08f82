use Rattle.std.proofs.Common.{◌∙◌, Bool, List, ap, arith, drop, length}
use Rattle.std.proofs.lemmas.List.{take_at}
use Rattle.st_values.specs.declared.value.Value.{Value}
use Rattle.st_memory.specs.Memory.{Content}
use Rattle.st_memory.specs.Packed.{decoded, marked}
use Rattle.st_memory.proofs.Encoded.{set_held}
use Rattle.st_memory.proofs.packed.PackedMemory.set.Goals as goal

abbrev made : List Value → List Bool → Content
made values forced = record { values = values; forced = forced }

pub returns-clause-over : goal.returns-clause-over
returns-clause-over c =
    let told = rw c.deref_mut.ensures.value at c.set_value_of.ensures in
    let back = take_at c.set_value_of.new.bytes (drop (length c.set_value_of.new.bytes) c.args.self.now.bytes.items) c.args.self.now.bytes.len (omega arith) in
    rw back (record {
      packed = record {
        held = (set_held c.args.layout.now c.args.self.now.bytes.items c.set_value_of.new.bytes c.args.leaf c.args.value c.requires.over.packed.held c.requires.below c.requires.value told).0;
        count = c.requires.over.packed.count;
      };
      rows' = c.requires.over.rows';
      forced' = c.requires.over.forced';
    })

pub returns-clause-set : goal.returns-clause-set
returns-clause-set c =
    let told = rw c.deref_mut.ensures.value at c.set_value_of.ensures in
    let back = take_at c.set_value_of.new.bytes (drop (length c.set_value_of.new.bytes) c.args.self.now.bytes.items) c.args.self.now.bytes.len (omega arith) in
    ap (λ (values : List Value). made values (marked (length c.args.layout.now) c.args.self.now.marks.items))
    (ap (decoded c.args.layout.now) back ∙ (set_held c.args.layout.now c.args.self.now.bytes.items c.set_value_of.new.bytes c.args.leaf c.args.value c.requires.over.packed.held c.requires.below c.requires.value told).1)
