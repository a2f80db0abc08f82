use Rattle.std.proofs.Common.{◌≡◌, drop, take}
use Rattle.st_chart_runs.proofs.leaves.load_values.Given as goal

abbrev pub invariant-loop-i : goal.invariant-loop-i
invariant-loop-i g l = take l.i l.cells ≡ take l.i (drop l.leaf (g.M.Memory.content l.layout l.memory).values)
