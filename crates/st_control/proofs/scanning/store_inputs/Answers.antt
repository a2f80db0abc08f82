use Rattle.std.proofs.Common.{arith}
use Rattle.st_control.proofs.Inputs.{leaf_below, value_of_leaf}
use Rattle.st_layout.specs.Layout.{no_value}
use Rattle.st_control.proofs.scanning.store_inputs.Goals as goal

pub forced-requires-clause-below : goal.forced-requires-clause-below
forced-requires-clause-below g c = leaf_below c.args.layout.now c.args.inputs.now c.loop-input.input-index (0, no_value) (omega arith) c.requires.leaves

pub set-requires-clause-below : goal.set-requires-clause-below
set-requires-clause-below g c = leaf_below c.args.layout.now c.args.inputs.now c.loop-input.input-index (0, no_value) (omega arith) c.requires.leaves

pub set-requires-clause-value : goal.set-requires-clause-value
set-requires-clause-value g c = value_of_leaf c.args.layout.now c.args.inputs.now c.loop-input.input-index (0, no_value) (omega arith) c.requires.types
