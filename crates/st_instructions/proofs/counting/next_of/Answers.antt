use Rattle.std.proofs.Common.{◌∙◌, sym, rules, w64}
use Rattle.std.specs.Int.{w128}
use Rattle.std.proofs.lemmas.Int.{to_z-of_z}
use Rattle.st_instructions.proofs.Turns.{next_high, next_low, none_at, some_at}
use Rattle.st_instructions.proofs.counting.next_of.Goals as goal

pub cell_of-requires-clause-low : goal.cell_of-requires-clause-low
cell_of-requires-clause-low c =
    let sum = rw (to_z-of_z w128 c.args.counter (search rules), to_z-of_z w128 c.args.step (search rules)) at c.sum-next.ensures in
    let goes = rw (to_z-of_z w128 c.sum-next.result (search rules), to_z-of_z w128 c.args.last (search rules), to_z-of_z w128 c.args.step (search rules), sum) at (sym c.goes_on.ensures ∙ c.if-goes_on.true) in
    rw (to_z-of_z w128 c.sum-next.result (search rules), sum) (next_low c.args.counter c.args.last c.args.step c.requires.counter_low c.requires.last_low goes)

pub cell_of-requires-clause-high : goal.cell_of-requires-clause-high
cell_of-requires-clause-high c =
    let sum = rw (to_z-of_z w128 c.args.counter (search rules), to_z-of_z w128 c.args.step (search rules)) at c.sum-next.ensures in
    let goes = rw (to_z-of_z w128 c.sum-next.result (search rules), to_z-of_z w128 c.args.last (search rules), to_z-of_z w128 c.args.step (search rules), sum) at (sym c.goes_on.ensures ∙ c.if-goes_on.true) in
    rw (to_z-of_z w128 c.sum-next.result (search rules), sum) (next_high c.args.counter c.args.last c.args.step c.requires.counter_high c.requires.last_high goes)

pub returns-then-goes_on : goal.returns-then-goes_on
returns-then-goes_on c =
    let sum = rw (to_z-of_z w128 c.args.counter (search rules), to_z-of_z w128 c.args.step (search rules)) at c.sum-next.ensures in
    let goes = rw (to_z-of_z w128 c.sum-next.result (search rules), to_z-of_z w128 c.args.last (search rules), to_z-of_z w128 c.args.step (search rules), sum) at (sym c.goes_on.ensures ∙ c.if-goes_on.true) in
    let cell = rw (to_z-of_z w128 c.sum-next.result (search rules), sum) at c.cell_of.ensures in
    rw (to_z-of_z w64 c.cell_of.result (search rules), cell) (some_at _ _ goes)

pub returns-else-goes_on : goal.returns-else-goes_on
returns-else-goes_on c =
    let sum = rw (to_z-of_z w128 c.args.counter (search rules), to_z-of_z w128 c.args.step (search rules)) at c.sum-next.ensures in
    let goes = rw (to_z-of_z w128 c.sum-next.result (search rules), to_z-of_z w128 c.args.last (search rules), to_z-of_z w128 c.args.step (search rules), sum) at (sym c.goes_on.ensures ∙ c.if-goes_on.false) in
    none_at _ _ goes
