use Rattle.std.proofs.Common.{arith}
use Rattle.st_memory.proofs.Rows.{row_is, rows_length}
use Rattle.st_memory.specs.declared.packed.rows.Row.{Row}
use Rattle.std.proofs.Common.{ap}
use Rattle.st_memory.proofs.packed.rows.offset_at.Goals as goal

pub bounds-rows-leaf : goal.bounds-rows-leaf
bounds-rows-leaf c = omega (arith, rows_length c.args.layout.now c.args.rows.now c.requires.rows, c.requires.below)

pub returns : goal.returns
returns c = ap (λ (row : Row). row.offset) (row_is c.args.layout.now c.args.rows.now c.args.leaf c.requires.rows c.requires.below)
