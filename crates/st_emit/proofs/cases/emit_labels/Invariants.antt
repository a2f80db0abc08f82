use Rattle.std.proofs.Common.{◌≡◌, ◌≤◌, ◌++◌, drop, length, map, reverse}
use Rattle.st_meaning.specs.Typing.{label_range}
use Rattle.st_code.specs.Code.{labels_code}
use Rattle.st_emit.proofs.cases.emit_labels.Given as goal

-- the code of the labels from this one on
abbrev pub invariant-loop-i : goal.invariant-loop-i
invariant-loop-i l =
    record { few : l.i ≤ length l.labels; code : l.code ≡ l.fn.code ++ reverse (labels_code l.elem (map (label_range l.elem) (drop l.i l.labels))) }

abbrev pub decreases-loop-i : goal.decreases-loop-i
decreases-loop-i l = l.i
