use Rattle.std.proofs.Common.{◌∙◌, ◌<◌, ◌^◌, ap, subst, sym}
use Rattle.st_values.specs.Types.{bits_of}
use Rattle.st_operators.specs.Functions.{turned}
use Rattle.st_operators.specs.Operators.{of_bits}
use Rattle.st_operators.proofs.Shifting.{turned_few, turned_in_code}
use Rattle.st_operators.proofs.Wrapping.{few_bits}
use Rattle.st_operators.proofs.shifts.turned.Goals as goal

pub of_bits-requires-clause-few : goal.of_bits-requires-clause-few
of_bits-requires-clause-few c =
    let w = bits_of c.args.a.elem in
    let x = c.bits_in-bits.result in
    let is = turned_in_code w c.bits.result c.args.low x c.bits.ensures c.requires.low (few_bits c.args.a.elem).1 in
    subst (λ n. n < 2 ^ w) (sym is) (turned_few w c.args.low x c.requires.low c.bits_in-bits.ensures.few)

pub returns-clause-value : goal.returns-clause-value
returns-clause-value c =
    let w = bits_of c.args.a.elem in
    let x = c.bits_in-bits.result in
    let is = turned_in_code w c.bits.result c.args.low x c.bits.ensures c.requires.low (few_bits c.args.a.elem).1 in
    c.of_bits.ensures.value ∙ ap (λ n. of_bits c.args.a.elem n) (is ∙ ap (turned w c.args.low) c.bits_in-bits.ensures.value)
