use Rattle.std.proofs.Common.{length, ◌-◌, ◌≤◌}
use Rattle.st_explain.proofs.Ordered.{AreFrom}
use Rattle.st_explain.proofs.all.faults_from.Given as goal

abbrev pub invariant-later : goal.invariant-later
invariant-later l = record {
  from : AreFrom l.tables l.fn.first l.faults.items l.last;
  few : length l.faults.items ≤ l.most;
}

abbrev pub decreases-later : goal.decreases-later
decreases-later l = l.most - length l.faults.items
