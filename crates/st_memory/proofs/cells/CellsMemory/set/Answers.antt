use Rattle.st_memory.specs.Memory.{Content}
use Rattle.st_memory.proofs.Contents.{with_value_fits}
use Rattle.st_memory.proofs.cells.CellsMemory.set.Goals as goal

pub returns-clause-over : goal.returns-clause-over
returns-clause-over c =
    let content : Content = record { values = c.args.self.now.values.items; forced = c.args.self.now.forced.items } in
    with_value_fits c.args.layout.now content c.args.leaf c.args.value c.requires.over c.requires.value
