use Rattle.std.proofs.Common.{◌≡◌, arith, take}
use Rattle.std.proofs.lemmas.List.{take_all}
use Rattle.st_memory.proofs.Contents.{initial_values_fit}
use Rattle.st_memory.proofs.cells.initial_values.Goals as goal

pub returns-clause-fitting : goal.returns-clause-fitting
returns-clause-fitting c =
    let all : take c.loop-leaf.leaf c.args.layout.now ≡ c.args.layout.now = take_all c.loop-leaf.leaf c.args.layout.now (omega arith) in
    rw (c.loop-leaf.invariant, all) (initial_values_fit c.args.layout.now c.len-leaf-end.ensures.sound.initial)
