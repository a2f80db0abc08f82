use Rattle.std.proofs.Common.{◌≡◌, map, take}
use Rattle.st_meaning.specs.Statements.{is_nonzero}
use Rattle.st_chart_runs.proofs.runs.set_conditions.Given as goal

-- the conditions so far
abbrev pub invariant-loop-i : goal.invariant-loop-i
invariant-loop-i l = take l.i l.conditions ≡ take l.i (map is_nonzero l.numbers)
