use Rattle.std.proofs.Common.{◌∙◌, sym, ap}
use Rattle.st_meaning.specs.Typing.{typed}
use Rattle.st_emit_expressions.specs.Trees.{own_behind, whole_of}
use Rattle.st_emit_expressions.proofs.Owns.{chain_own, ends_own}
use Rattle.st_emit_expressions.proofs.own.own_of_front.Goals as goal

pub returns-then-ends_in_comparison : goal.returns-then-ends_in_comparison
returns-then-ends_in_comparison c =
    let w = whole_of c.args.scope.now in
    ends_own w (typed w c.args.first.now).own c.args.operations.now (sym c.ends_in_comparison.ensures ∙ c.if-ends_in_comparison.true) ∙ sym (chain_own w c.args.first.now c.args.operations.now)

pub returns : goal.returns
returns c =
    let w = whole_of c.args.scope.now in
    c.own_of_chain.ensures ∙ ap (λ a. own_behind w a c.args.operations.now) c.own.ensures ∙ sym (chain_own w c.args.first.now c.args.operations.now)
