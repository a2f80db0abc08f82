use Rattle.std.proofs.Common.{◌≡◌, ◌∙◌, ap, arith, replicate, rules}
use Rattle.st_memory.specs.Packed.{marked}
use Rattle.st_memory.proofs.Bits.{none_marked}
use Rattle.st_memory.proofs.packed.marks.no_marks.Goals as goal

pub returns-clause-marks : goal.returns-clause-marks
returns-clause-marks c =
    let none : c.in_ok-marks.marks.items ≡ replicate c.div_ceil-bytes.result 0 = search rules in
    ap (marked c.args.count) none ∙ none_marked c.args.count c.div_ceil-bytes.result (omega (arith, c.div_ceil-bytes.ensures))
