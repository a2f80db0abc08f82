use Rattle.std.proofs.Common.{◌∙◌, ℕ, Bool, List, ap, arith, drop, length}
use Rattle.std.proofs.lemmas.List.{take_at}
use Rattle.st_values.specs.declared.value.Value.{Value}
use Rattle.st_memory.specs.Memory.{Content}
use Rattle.st_memory.specs.Packed.{decoded, mark_at, marked}
use Rattle.st_memory.proofs.Bits.{put_marked}
use Rattle.st_memory.proofs.packed.PackedMemory.mark.Goals as goal

abbrev made : List Value → List Bool → Content
made values forced = record { values = values; forced = forced }

pub returns-clause-marked : goal.returns-clause-marked
returns-clause-marked c =
    let back = take_at c.put_mark.new.marks (drop (length c.put_mark.new.marks) c.args.self.now.marks.items) c.args.self.now.marks.len (omega arith) in
    ap (made (decoded c.args.layout.now c.args.self.now.bytes.items))
    (ap (marked (length c.args.layout.now)) back
    ∙ put_marked (length c.args.layout.now) c.args.self.now.marks.items c.put_mark.new.marks c.args.leaf c.args.on c.requires.below c.put_mark.ensures.here
    (λ k apart. c.put_mark.ensures.others k apart ∙ ap (λ (marks : List ℕ). mark_at marks k) c.deref_mut.ensures.value))
