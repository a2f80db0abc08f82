use Rattle.std.proofs.Common.{rules, ◌∙◌, ap, neg_ℤ, FitsSigned}
use Rattle.std.proofs.lemmas.Int.{to_z-of_z, wrapping_neg_is}
use Rattle.std.specs.Int.{w128, int_wrapping_neg}
use Rattle.st_values.specs.Values.{wrapped}
use Rattle.st_operators.proofs.Wrapping.{wrapped_through}
use Rattle.st_operators.proofs.arithmetic.negate.Goals as goal

pub returns-clause-value : goal.returns-clause-value
returns-clause-value c =
    let a : FitsSigned w128 c.args.a.bits = search rules in
    let r : FitsSigned w128 c.wrapping_neg.result = search rules in
    let e = c.args.a.elem in
    c.wrap.ensures.value ∙ ap (wrapped e) (to_z-of_z w128 c.wrapping_neg.result r ∙ c.wrapping_neg.ensures ∙ ap (int_wrapping_neg w128) (to_z-of_z w128 c.args.a.bits a) ∙ wrapping_neg_is w128 c.args.a.bits a) ∙ wrapped_through e (neg_ℤ c.args.a.bits) c.requires
