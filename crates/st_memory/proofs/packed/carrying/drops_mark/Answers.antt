use Rattle.std.proofs.Common.{◌∙◌, ◌&&◌, Bool, false, ap, length, sym}
use Rattle.std.specs.Option.{is_none}
use Rattle.st_layout.specs.Pairs.{number_at}
use Rattle.st_memory.proofs.Bits.{marked_at}
use Rattle.st_memory.proofs.packed.carrying.drops_mark.Goals as goal

pub returns-then-is_marked : goal.returns-then-is_marked
returns-then-is_marked c =
    let here = marked_at (length c.args.old.now) c.args.marks.now c.args.leaf false c.requires.leaf in
    c.is_dropped.ensures ∙ sym (ap (λ (b : Bool). b && is_none (number_at c.args.plan.now.targets c.args.leaf)) (here ∙ (sym c.is_marked.ensures ∙ c.if-is_marked.true)))

pub returns-else-is_marked : goal.returns-else-is_marked
returns-else-is_marked c =
    let here = marked_at (length c.args.old.now) c.args.marks.now c.args.leaf false c.requires.leaf in
    c.if-is_marked.false ∙ sym (ap (λ (b : Bool). b && is_none (number_at c.args.plan.now.targets c.args.leaf)) (here ∙ (sym c.is_marked.ensures ∙ c.if-is_marked.false)))
