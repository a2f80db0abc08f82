use Rattle.std.proofs.Common.{arith}
use Rattle.std.proofs.lemmas.List.{get_or_read}
use Rattle.st_layout.specs.Layout.{no_value}
use Rattle.st_memory.proofs.Contents.{value_fits}
use Rattle.st_memory.proofs.cells.CellsMemory.get.Goals as goal

pub returns-clause-fits : goal.returns-clause-fits
returns-clause-fits c =
    rw (get_or_read c.args.self.now.values.items c.args.leaf c.index.result.now (omega arith) c.index.ensures no_value)
    (value_fits c.args.layout.now c.args.self.now.values.items c.args.leaf c.requires.over.types c.requires.below)
