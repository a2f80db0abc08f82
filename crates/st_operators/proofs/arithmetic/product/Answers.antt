use Rattle.std.proofs.Common.{rules, ◌∙◌, ap, ◌*ℤ◌, FitsSigned}
use Rattle.std.proofs.lemmas.Int.{wrapping_mul_is}
use Rattle.std.specs.Int.{w128}
use Rattle.st_values.specs.Values.{wrapped}
use Rattle.st_operators.proofs.Wrapping.{integers_negate, wrapped_through}
use Rattle.st_operators.proofs.arithmetic.product.Goals as goal

pub returns-clause-value : goal.returns-clause-value
returns-clause-value c =
    let a : FitsSigned w128 c.args.a.bits = search rules in
    let b : FitsSigned w128 c.args.b.bits = search rules in
    let e = c.args.a.elem in
    c.wrap.ensures.value ∙ ap (wrapped e) (wrapping_mul_is w128 c.args.a.bits c.args.b.bits a b) ∙ wrapped_through e (c.args.a.bits *ℤ c.args.b.bits) (integers_negate e c.requires.taken)
