use Rattle.std.proofs.Common.{◌∙◌, [], sym, rules, w64}
use Rattle.std.proofs.lemmas.Int.{to_z-of_z}
use Rattle.st_instructions.proofs.Turns.{test_goes, test_stores}
use Rattle.st_instructions.proofs.variables.test.Goals as goal

pub store-requires-clause-variable : goal.store-requires-clause-variable
store-requires-clause-variable c =
    let found = c.count_on-count.ensures.cells in
    let count = c.count_on-count.result in
    let goes = sym c.count_goes_on.ensures ∙ c.if-not-count_goes_on.false in
    (test_stores c.args.elem c.args.leaf count.step count.last count.counter found.0 c.args.stack.now.0 c.args.variables.now found.1 c.requires.ready goes).leaf'

pub store-requires-clause-cell : goal.store-requires-clause-cell
store-requires-clause-cell c =
    let found = c.count_on-count.ensures.cells in
    let count = c.count_on-count.result in
    let goes = sym c.count_goes_on.ensures ∙ c.if-not-count_goes_on.false in
    rw (to_z-of_z w64 count.counter (search rules))
    (test_stores c.args.elem c.args.leaf count.step count.last count.counter found.0 c.args.stack.now.0 c.args.variables.now found.1 c.requires.ready goes).cell'

pub returns-clause-does : goal.returns-clause-does
returns-clause-does c =
    let found = c.count_on-count.ensures.cells in
    let count = c.count_on-count.result in
    let goes = sym c.count_goes_on.ensures ∙ c.if-not-count_goes_on.false in
    let stored = rw (to_z-of_z w64 count.counter (search rules)) at c.store.ensures.stored in
    λ moment line place left. rw stored
    (test_goes moment [] c.args.stack.now.1 c.args.elem c.args.leaf c.args.distance count.step count.last count.counter found.0 c.args.stack.now.0 c.args.variables.now line place left found.1 c.requires.ready goes)
