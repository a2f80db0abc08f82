use Rattle.std.proofs.Common.{◌≡◌, take}
use Rattle.st_meaning.specs.Charts.{flags_values}
use Rattle.st_chart_runs.proofs.flags.write_flags.Given as goal

-- the leaves so far
abbrev pub invariant-loop-i : goal.invariant-loop-i
invariant-loop-i l = take l.i l.cells ≡ take l.i (flags_values l.stored l.flags)
