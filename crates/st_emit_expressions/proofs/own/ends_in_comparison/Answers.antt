use Rattle.std.proofs.Common.{◌∙◌, ◌-◌, arith, length}
use Rattle.st_emit_expressions.proofs.Owns.{last_is}
use Rattle.st_emit_expressions.proofs.own.ends_in_comparison.Goals as goal

pub returns : goal.returns
returns c = c.is_comparison.ensures ∙ last_is c.args.operations.now (length c.args.operations.now - 1) c.index-operations-count.result (omega (arith, c.if-count-eq0.false)) c.index-operations-count.is
