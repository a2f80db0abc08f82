use Rattle.std.proofs.Common.{rules, ◌∙◌, ap, ◌-ℤ◌, FitsSigned}
use Rattle.std.proofs.lemmas.Int.{wrapping_sub_is}
use Rattle.std.specs.Int.{w128}
use Rattle.st_values.specs.Values.{wrapped}
use Rattle.st_operators.proofs.Wrapping.{wrapped_through}
use Rattle.st_operators.proofs.arithmetic.difference.Goals as goal

pub returns-clause-value : goal.returns-clause-value
returns-clause-value c =
    let a : FitsSigned w128 c.args.a.bits = search rules in
    let b : FitsSigned w128 c.args.b.bits = search rules in
    let e = c.args.a.elem in
    c.wrap.ensures.value ∙ ap (wrapped e) (wrapping_sub_is w128 c.args.a.bits c.args.b.bits a b) ∙ wrapped_through e (c.args.a.bits -ℤ c.args.b.bits) c.requires.taken
