use Rattle.std.proofs.Common.{◌≡◌, ◌∙◌, length, sym, arith}
use Rattle.st_chart_runs.proofs.Stretches.{written_all, written_is}
use Rattle.st_chart_runs.proofs.leaves.store_values.Goals as goal

pub returns-clause-values : goal.returns-clause-values
returns-clause-values g c =
    let first = g.M.Memory.content c.args.layout.now c.args.memory.now in
    let values = (g.M.Memory.content c.args.layout.now c.loop-i.memory).values in
    let last : c.loop-i.i ≡ length c.args.cells.now = omega (arith, c.loop-i-test.false, c.loop-i.auto.i-end) in
    sym (written_all first.forced values c.args.leaf c.loop-i.i c.args.cells.now last) ∙ c.loop-i.invariant.values
    ∙ written_is first.forced first.values c.args.leaf c.args.cells.now c.requires.there
