use Rattle.std.proofs.Common.{◌≡◌, ◌≤◌, ◌++◌, drop, length}
use Rattle.st_machine.proofs.Puts.{action_cells}
use Rattle.st_machine.proofs.charts.put_actions.Given as goal

-- those behind the place are put
abbrev pub invariant-loop-place : goal.invariant-loop-place
invariant-loop-place l = record {
  place : l.place ≤ length l.actions;
  cells : l.stack.0 ≡ action_cells l.on (drop l.place l.actions) ++ l.initial.stack.0;
  room : l.stack.1 ≡ l.initial.stack.1;
}

abbrev pub decreases-loop-place : goal.decreases-loop-place
decreases-loop-place l = l.place
