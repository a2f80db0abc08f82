use Rattle.std.proofs.Common.{ap}
use Rattle.st_types.specs.Standard.{BlockRow}
use Rattle.st_types.proofs.standard.StandardBlock.pins.Goals as goal

pub returns : goal.returns
returns c = ap (λ (row : BlockRow). row.pins) c.row.ensures
