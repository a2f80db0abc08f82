use Rattle.std.proofs.Common.{◌≡◌, ◌≤◌, List, true, false}
use Rattle.st_devices.specs.Inputs.{has_ended, left, pending}
use Rattle.st_devices.specs.Pending.{OnReading}
use Rattle.st_layout.specs.declared.renames.Rename.{Rename}
use Rattle.st_lines.proofs.ReadLemmas.{TextSoFar}
use Rattle.st_lines.proofs.change_text.read_lines.Given as goal

abbrev pub invariant-loop-byte : goal.invariant-loop-byte
invariant-loop-byte g l = record {
  so_far : (renames : List Rename) → OnReading (pending l.fn.input (g.R.Source.rest l.fn.source)) (pending l.input (g.R.Source.rest l.source)) (TextSoFar renames l.text);
  ended : has_ended l.fn.input ≡ true → has_ended l.input ≡ true;
  works : g.R.Source.has_failed l.source ≡ false;
  steady : left l.input (g.R.Source.reads_left l.source) ≤ left l.fn.input (g.R.Source.reads_left l.fn.source);
}

abbrev pub decreases-loop-byte : goal.decreases-loop-byte
decreases-loop-byte g l = left l.input (g.R.Source.reads_left l.source)
