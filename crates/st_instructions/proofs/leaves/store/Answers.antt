use Rattle.std.proofs.Common.{rules, w64}
use Rattle.std.proofs.lemmas.Int.{to_z-of_z}
use Rattle.st_instructions.proofs.Stores.{store_fits}
use Rattle.st_instructions.proofs.leaves.store.Goals as goal

pub store_value-requires-clause-value : goal.store_value-requires-clause-value
store_value-requires-clause-value g c =
    let content = g.M.Memory.content c.args.layout.now c.args.memory.now in
    rw (c.value_in.ensures, to_z-of_z w64 c.args.cell (search rules))
    (store_fits c.args.layout.now content c.args.elem c.args.leaf c.args.cell (g.met.M.Memory.fits _ _ c.requires.over) c.requires.leaf c.requires.cell)
