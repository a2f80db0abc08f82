use Rattle.std.proofs.Common.{[], ◌≡◌, ◌-◌, suc, sym, rules, arith, w64}
use Rattle.std.proofs.lemmas.Int.{to_z-of_z}
use Rattle.st_instructions.proofs.Turns.{next_goes, next_passes, next_stores}
use Rattle.st_instructions.proofs.variables.go_next.Goals as goal

pub store-requires-clause-variable : goal.store-requires-clause-variable
store-requires-clause-variable c =
    let less : c.args.left.now ≡ suc (c.args.left.now - 1) = omega (arith, c.if-left-eq0.false) in
    let found = c.count_on-count.ensures.cells in
    (next_stores _ _ _ _ _ _ found.0 _ _ _ _ less found.1 c.requires.ready (sym c.in-Some.ensures)).leaf'

pub store-requires-clause-cell : goal.store-requires-clause-cell
store-requires-clause-cell c =
    let less : c.args.left.now ≡ suc (c.args.left.now - 1) = omega (arith, c.if-left-eq0.false) in
    let found = c.count_on-count.ensures.cells in
    rw (to_z-of_z w64 c.in-Some.cell (search rules))
    (next_stores c.args.elem c.args.leaf _ _ _ _ found.0 _ c.args.variables.now _ _ less found.1 c.requires.ready (sym c.in-Some.ensures)).cell'

pub returns-in-Some-clause-does : goal.returns-in-Some-clause-does
returns-in-Some-clause-does c =
    let less : c.args.left.now ≡ suc (c.args.left.now - 1) = omega (arith, c.if-left-eq0.false) in
    let found = c.count_on-count.ensures.cells in
    let count = c.count_on-count.result in
    let values = rw (to_z-of_z w64 c.in-Some.cell (search rules)) at c.store.ensures.stored in
    let others = rw (to_z-of_z w64 c.in-Some.cell (search rules)) at (c.set_counter.ensures.cells count.step count.last count.counter found.0 found.1) in
    λ moment line place. rw values
    (next_goes moment [] c.args.stack.now.1 c.args.elem c.args.leaf c.args.distance count.step count.last count.counter c.in-Some.cell found.0 c.args.stack.now.0 _ c.args.variables.now line place c.args.left.now (c.args.left.now - 1) less found.1 others c.requires.ready (sym c.in-Some.ensures))

pub returns-in-None-clause-does : goal.returns-in-None-clause-does
returns-in-None-clause-does c =
    let less : c.args.left.now ≡ suc (c.args.left.now - 1) = omega (arith, c.if-left-eq0.false) in
    let found = c.count_on-count.ensures.cells in
    let count = c.count_on-count.result in
    λ moment line place.
    (next_passes moment [] c.args.stack.now.1 c.args.elem c.args.leaf c.args.distance count.step count.last count.counter found.0 c.args.stack.now.0 c.args.variables.now line place c.args.left.now (c.args.left.now - 1) less found.1 c.requires.ready (sym c.in-None.ensures))
