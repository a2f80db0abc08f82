use Rattle.std.proofs.Common.{◌≡◌, ◌++◌, drop, take}
use Rattle.st_chart_runs.specs.Parts.{AreFirst}
use Rattle.st_meaning.specs.Charts.{cells_in}
use Rattle.st_meaning.specs.Sketches.{steps_types}
use Rattle.st_chart_runs.proofs.steps.read_steps.Given as goal

-- the steps so far, and the values of the leaves of the others
abbrev pub invariant-loop-i : goal.invariant-loop-i
invariant-loop-i l = record {
  typed : AreFirst (steps_types (drop l.i l.pulses)) l.rest;
  read : take l.i l.steps ++ cells_in (drop l.i l.pulses) l.rest ≡ cells_in l.pulses l.cells;
}
