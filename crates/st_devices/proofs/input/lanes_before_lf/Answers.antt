use Rattle.std.proofs.Common.{eqb, sym, ap, ◌∙◌, arith, w8}
use lib.Count.{count_trailing_zeros}
use lib.Lanes.{chunk}
use Rattle.std.proofs.lemmas.Simd.{length-chunk, bitmask_splat, leading_from_mask_l, trailing_mask_l}
use Rattle.st_devices.specs.Lines.{is_lf}
use Rattle.st_devices.proofs.input.lanes_before_lf.Goals as goal

-- no lane is an LF
pub returns-then-ends-eq0 : goal.returns-then-ends-eq0
returns-then-ends-eq0 c =
    let lanes = chunk c.args.at 16 c.args.bytes.now in
    let long = length-chunk c.args.at 16 c.args.bytes.now c.requires in
    let ends = bitmask_splat w8 eqb lanes 16 10 long (omega arith) in
    sym (leading_from_mask_l is_lf lanes (sym ends ∙ c.if-ends-eq0.true) ∙ long)

-- the lowest bit is that of the first
pub returns-else-ends-eq0 : goal.returns-else-ends-eq0
returns-else-ends-eq0 c =
    let lanes = chunk c.args.at 16 c.args.bytes.now in
    let long = length-chunk c.args.at 16 c.args.bytes.now c.requires in
    let ends = bitmask_splat w8 eqb lanes 16 10 long (omega arith) in
    ap (count_trailing_zeros 64) ends ∙ trailing_mask_l is_lf 64 lanes (omega arith) (omega arith)
