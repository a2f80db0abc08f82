use Rattle.std.proofs.Common.{◌∙◌, List, ℕ, false, ap, length, sym}
use Rattle.st_memory.specs.Packed.{mark_at}
use Rattle.st_memory.proofs.Bits.{marked_at, unmarked}
use Rattle.st_memory.proofs.packed.PackedMemory.forced.Goals as goal

pub returns-then-self : goal.returns-then-self
returns-then-self c =
    c.is_marked.ensures ∙ (ap (λ (marks : List ℕ). mark_at marks c.args.leaf) c.deref.ensures.value
    ∙ sym (marked_at (length c.args.layout.now) c.args.self.now.marks.items c.args.leaf false c.requires.below))

pub returns-else-self : goal.returns-else-self
returns-else-self c =
    let none = sym c.requires.over.forced' ∙ c.if-self.false in
    c.if-self.false ∙ sym (marked_at (length c.args.layout.now) c.args.self.now.marks.items c.args.leaf false c.requires.below
    ∙ unmarked c.args.self.now.marks.items none c.args.leaf)
