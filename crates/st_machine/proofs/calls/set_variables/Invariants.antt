use Rattle.std.proofs.Common.{◌≤◌}
use Rattle.st_code.specs.Machine.{values_in}
use Rattle.st_machine.proofs.Begun.{AreSet}
use Rattle.st_machine.proofs.calls.set_variables.Given as goal

-- the variables so far, and the inputs among them
abbrev pub invariant-loop-i : goal.invariant-loop-i
invariant-loop-i l = record {
  next : l.next ≤ l.i;
  set : AreSet l.function.starts (values_in l.function.inputs l.cells) l.variables l.i l.next;
}
