use Rattle.std.proofs.Common.{arith, sym}
use Rattle.st_control.proofs.Inputs.{one_other}
use Rattle.st_layout.specs.Layout.{no_value}
use Rattle.st_control.proofs.scanning.names_other_type.Goals as goal

pub returns-then-not-is_value_of : goal.returns-then-not-is_value_of
returns-then-not-is_value_of c =
    sym (one_other c.args.layout.now c.args.inputs.now c.loop-input.input-index (0, no_value) (omega arith) c.at.result.now c.is_value_of.result
    c.at.ensures.value c.is_value_of.ensures.value c.if-not-is_value_of.true)
