use Rattle.std.proofs.Common.{◌^◌, ◌<◌, subst, sym}
use Rattle.std.proofs.lemmas.Nat.{xor_lt}
use Rattle.st_values.specs.Types.{bits_of}
use Rattle.st_operators.proofs.bits.exclusion.Goals as goal

pub of_bits-requires-clause-few : goal.of_bits-requires-clause-few
of_bits-requires-clause-few c =
    let few = subst (λ e. c.bits_in-2.result < 2 ^ bits_of e) (sym c.requires.alike.same) c.bits_in-2.ensures.few in
    xor_lt (bits_of c.args.a.elem) c.bits_in.result c.bits_in-2.result c.bits_in.ensures.few few
