use Rattle.std.proofs.Common.{◌≡◌, ◌+◌, ◌++◌, drop, length, take}
use Rattle.st_meaning.specs.Charts.{steps_values}
use Rattle.st_meaning.specs.Sketches.{steps_types}
use Rattle.st_chart_runs.proofs.steps.write_steps.Given as goal

-- the leaves of the steps so far, and those of the others
abbrev pub invariant-loop-i : goal.invariant-loop-i
invariant-loop-i l = record {
  leaves : l.place + length (steps_types (drop l.i l.pulses)) ≡ length l.cells;
  written : take l.place l.cells ++ steps_values (drop l.i l.pulses) (drop l.i l.steps) ≡ steps_values l.pulses l.steps;
}
