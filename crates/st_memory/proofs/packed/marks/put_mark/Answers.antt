use Rattle.std.proofs.Common.{◌%◌, ◌∙◌, sym, arith}
use Rattle.std.specs.Int.{w8}
use Rattle.std.proofs.lemmas.Nat.Bits.{bit_at_clear_other, bit_at_clear_same, bit_at_set_other, bit_at_set_same}
use Rattle.st_memory.proofs.Bits.{set_here, set_others}
use Rattle.st_memory.proofs.packed.marks.put_mark.Goals as goal

pub returns-then-on-clause-here : goal.returns-then-on-clause-here
returns-then-on-clause-here c =
    set_here c.args.marks.now c.args.leaf _ 1 (omega arith) (bit_at_set_same w8 _ (c.args.leaf % 8) (omega arith)) ∙ sym c.if-on.true

pub returns-then-on-clause-others : goal.returns-then-on-clause-others
returns-then-on-clause-others c =
    set_others c.args.marks.now c.args.leaf _ (λ k below apart. bit_at_set_other w8 _ (c.args.leaf % 8) (omega arith) k apart) (omega arith)

pub returns-else-on-clause-here : goal.returns-else-on-clause-here
returns-else-on-clause-here c =
    set_here c.args.marks.now c.args.leaf _ 0 (omega arith) (bit_at_clear_same w8 _ (c.args.leaf % 8) (omega arith)) ∙ sym c.if-on.false

pub returns-else-on-clause-others : goal.returns-else-on-clause-others
returns-else-on-clause-others c =
    set_others c.args.marks.now c.args.leaf _ (λ k below apart. bit_at_clear_other w8 _ (c.args.leaf % 8) (omega arith) k below apart) (omega arith)
