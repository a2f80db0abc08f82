use Rattle.std.proofs.Common.{refl, rules, w64}
use Rattle.std.specs.Int.{w128}
use Rattle.std.proofs.lemmas.Int.{to_z-of_z}
use Rattle.st_instructions.proofs.counting.far_next.Goals as goal

pub returns : goal.returns
returns c =
    let counter = rw (to_z-of_z w64 c.args.count.counter (search rules)) at c.number_in.ensures.value in
    let last = rw (to_z-of_z w64 c.args.count.last (search rules)) at c.number_in-2.ensures.value in
    let step = rw (to_z-of_z w64 c.args.count.step (search rules)) at c.number_in-step.ensures.value in
    rw (c.next_of.ensures, to_z-of_z w128 c.number_in.result (search rules), to_z-of_z w128 c.number_in-2.result (search rules), to_z-of_z w128 c.number_in-step.result (search rules), counter, last, step) refl
