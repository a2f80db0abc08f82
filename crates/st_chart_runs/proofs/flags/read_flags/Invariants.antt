use Rattle.std.proofs.Common.{◌≡◌, drop}
use Rattle.st_meaning.specs.Charts.{flags_from}
use Rattle.st_chart_runs.proofs.flags.read_flags.Given as goal

-- what is left to read
abbrev pub invariant-loop-i : goal.invariant-loop-i
invariant-loop-i l = flags_from (drop l.i l.stored) (drop l.i l.cells) l.flags ≡ flags_from l.stored l.cells l.initial.flags
