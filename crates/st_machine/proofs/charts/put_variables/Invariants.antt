use Rattle.std.proofs.Common.{◌≡◌, ◌≤◌, ◌++◌, drop, length}
use Rattle.st_machine.proofs.Puts.{name_cells}
use Rattle.st_machine.proofs.charts.put_variables.Given as goal

-- those behind the place are put
abbrev pub invariant-loop-place : goal.invariant-loop-place
invariant-loop-place l = record {
  place : l.place ≤ length l.variables;
  cells : l.stack.0 ≡ name_cells (drop l.place l.variables) (drop l.place l.on) ++ l.initial.stack.0;
  room : l.stack.1 ≡ l.initial.stack.1;
}

abbrev pub decreases-loop-place : goal.decreases-loop-place
decreases-loop-place l = l.place
