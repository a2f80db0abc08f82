use Rattle.std.proofs.Common.{◌≡◌, ◌∙◌, ap, arith, map, take}
use Rattle.std.proofs.lemmas.List.{take_all}
use Rattle.st_memory.specs.Packed.{encoded}
use Rattle.st_memory.proofs.Contents.{initial_values_fit}
use Rattle.st_memory.proofs.packed.initial_bytes.Goals as goal

pub returns-clause-bytes : goal.returns-clause-bytes
returns-clause-bytes c =
    let all : take c.loop-leaf.leaf c.args.layout.now ≡ c.args.layout.now = take_all c.loop-leaf.leaf c.args.layout.now (omega arith) in
    c.loop-leaf.invariant ∙ ap (λ leaves. encoded (map (λ leaf. leaf.initial) leaves)) all

pub returns-clause-fitting : goal.returns-clause-fitting
returns-clause-fitting c = initial_values_fit c.args.layout.now c.len-leaf-end.ensures.sound.initial
