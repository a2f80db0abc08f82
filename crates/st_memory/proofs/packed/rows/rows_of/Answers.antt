use Rattle.std.proofs.Common.{◌≡◌, ◌∙◌, ℕ, ap, arith, length, map, sym}
use Rattle.std.proofs.lemmas.List.FromFn.{map-range_with_len_more}
use Rattle.std.specs.List.{range_with_len}
use Rattle.st_memory.specs.Packed.{row_of}
use Rattle.st_memory.proofs.packed.rows.rows_of.Goals as goal

pub loop-leaf-preserved : goal.loop-leaf-preserved
loop-leaf-preserved c =
    let told = rw (c.loop-leaf.invariant, c.offset-offset.ensures, c.elem-elem.ensures) at c.in_ok-push.ensures.items in
    told ∙ sym (map-range_with_len_more (row_of c.args.layout.now) 0 c.loop-leaf.leaf c.loop-leaf.leaf (omega arith))

pub returns : goal.returns
returns c =
    let all : c.loop-leaf.leaf ≡ length c.args.layout.now = omega arith in
    c.loop-leaf.invariant ∙ ap (λ (n : ℕ). map (row_of c.args.layout.now) (range_with_len 0 n)) all
