use Rattle.st_memory.specs.Packed.{decoded}
use Rattle.st_memory.proofs.Contents.{value_fits}
use Rattle.st_memory.proofs.packed.PackedMemory.get.Goals as goal

pub returns-clause-fits : goal.returns-clause-fits
returns-clause-fits c =
    rw (c.value_of.ensures, c.deref-3.ensures.value)
    (value_fits c.args.layout.now (decoded c.args.layout.now c.args.self.now.bytes.items) c.args.leaf c.requires.over.packed.held.types c.requires.below)
