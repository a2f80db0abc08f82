use Rattle.std.proofs.Common.{◌∙◌, ◌≤◌, sym, rules}
use Rattle.st_values.specs.Types.{bits_of}
use Rattle.st_operators.specs.Functions.{places_of}
use Rattle.st_operators.proofs.Shifting.{shifted_right_far}
use Rattle.st_operators.proofs.shifts.shifted_right.Goals as goal

pub returns-then-places-from-clause-value : goal.returns-then-places-from-clause-value
returns-then-places-from-clause-value c =
    let far : bits_of c.args.a.elem ≤ places_of c.args.count.bits = search rules in
    c.of_bits.ensures.value ∙ sym (shifted_right_far c.args.a (places_of c.args.count.bits) c.requires.taken c.requires.value far)
