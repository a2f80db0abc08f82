use Rattle.std.proofs.Common.{◌≡◌, ◌≤◌, ◌<◌, true, false, length, vec_capacity}
use Rattle.st_devices.specs.Inputs.{pending, left}
use Rattle.st_devices.specs.Pending.{OnReading}
use Rattle.st_devices.proofs.LineLemmas.{LineSoFar}
use Rattle.st_devices.proofs.input.Input.next_line.Given as goal

abbrev pub invariant-loop-piece : goal.invariant-loop-piece
invariant-loop-piece g l = record {
  capacity : 4096 ≤ vec_capacity l.line;
  short : length l.line.items ≤ 4096;
  so_far : OnReading (pending l.fn.self (g.R.Source.rest l.fn.source)) (pending l.self (g.R.Source.rest l.source)) (LineSoFar l.is_empty l.is_long l.line.items);
  ended : l.fn.self.at_end ≡ true → l.self.at_end ≡ true;
  works : g.R.Source.has_failed l.source ≡ false;
  progress : l.is_empty ≡ false → left l.self (g.R.Source.reads_left l.source) < left l.fn.self (g.R.Source.reads_left l.fn.source);
  steady : left l.self (g.R.Source.reads_left l.source) ≤ left l.fn.self (g.R.Source.reads_left l.fn.source);
}

abbrev pub decreases-loop-piece : goal.decreases-loop-piece
decreases-loop-piece g l = left l.self (g.R.Source.reads_left l.source)
