use Rattle.std.proofs.Common.{◌≡◌, false, take}
use Rattle.std.specs.List.{list_any}
use Rattle.st_control.specs.Scans.{has_no_input}
use Rattle.st_control.proofs.scanning.names_no_input.Given as goal

-- all leaves so far are process inputs
abbrev pub invariant-loop-input : goal.invariant-loop-input
invariant-loop-input l = list_any (has_no_input l.layout) (take l.input-index l.inputs) ≡ false
