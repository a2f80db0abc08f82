use Rattle.std.proofs.Common.{◌≡◌, false, replicate}
use Rattle.st_control.proofs.changing.no_marks.Given as goal

abbrev pub invariant-loop-mark : goal.invariant-loop-mark
invariant-loop-mark l = l.marks.items ≡ replicate l._mark false
