use Rattle.std.proofs.Common.{◌≡◌, false, take}
use Rattle.std.specs.List.{list_any}
use Rattle.st_control.specs.Scans.{has_other_type}
use Rattle.st_control.proofs.scanning.names_other_type.Given as goal

-- no value so far is of another type
abbrev pub invariant-loop-input : goal.invariant-loop-input
invariant-loop-input l = list_any (has_other_type l.layout) (take l.input-index l.inputs) ≡ false
