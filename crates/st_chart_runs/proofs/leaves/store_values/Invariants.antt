use Rattle.std.proofs.Common.{◌≡◌, ◌+◌, drop}
use Rattle.st_chart_runs.proofs.Stretches.{written}
use Rattle.st_chart_runs.proofs.leaves.store_values.Given as goal

abbrev pub invariant-loop-i : goal.invariant-loop-i
invariant-loop-i g l =
    let first = g.M.Memory.content l.layout l.fn.memory in
    let values = (g.M.Memory.content l.layout l.memory).values in
    record {
      over : g.M.Memory.IsOver l.layout l.memory;
      forced : (g.M.Memory.content l.layout l.memory).forced ≡ first.forced;
      values : written first.forced values (l.leaf + l.i) (drop l.i l.cells) ≡ written first.forced first.values l.leaf l.cells;
    }
