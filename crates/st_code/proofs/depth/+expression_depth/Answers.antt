use Rattle.std.proofs.Common.{None, Some, arith, sym, ◌∙◌}
use Rattle.st_code.proofs.DepthFolds.{called_is, chain_is, subscripts_is}
use Rattle.st_code.proofs.depth.+expression_depth.Goals as goal

pub part_depth-returns-in-Subscripts : goal.part_depth-returns-in-Subscripts
part_depth-returns-in-Subscripts n c =
    rw (c.in-Subscripts.is, subscripts_is c.args.inputs, ← c.as_slice.ensures) (omega (arith, c.max.ensures, c.saturating_add.ensures, c.subscripts_depth.ensures))

pub expression_depth-returns-in-Chain : goal.expression_depth-returns-in-Chain
expression_depth-returns-in-Chain n c =
    rw (c.in-Chain.is, chain_is c.args.inputs, ← c.get.ensures, ← c.as_slice.ensures) (omega (arith, c.max-in-Chain.ensures, c.expression_depth.ensures, c.operations_depth.ensures))

pub call_depth-returns-in-Some : goal.call_depth-returns-in-Some
call_depth-returns-in-Some n c =
    let is = called_is c.args.inputs c.args.call.now c.as_slice.result.now (Some c.in-Some.standard) c.as_slice.ensures (sym c.standard_of.ensures ∙ c.in-Some.is) in
    rw (is, ← c.as_slice-arguments.ensures, ← c.is_choice.ensures) (omega (arith, c.max.ensures, c.unnamed_depth.ensures))

pub call_depth-returns-in-None : goal.call_depth-returns-in-None
call_depth-returns-in-None n c =
    let is = called_is c.args.inputs c.args.call.now c.as_slice.result.now None c.as_slice.ensures (sym c.standard_of.ensures ∙ c.in-None.is) in
    rw (is, ← c.as_slice-arguments.ensures) c.passed_depth.ensures
