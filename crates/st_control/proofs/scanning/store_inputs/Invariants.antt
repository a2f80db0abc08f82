use Rattle.std.proofs.Common.{◌≡◌, drop}
use Rattle.st_control.specs.Scans.{with_inputs}
use Rattle.st_control.proofs.scanning.store_inputs.Given as goal

-- the inputs so far are stored
abbrev pub invariant-loop-input : goal.invariant-loop-input
invariant-loop-input g l =
    let now = g.M.Memory.content l.layout l.memory in
    let before = g.M.Memory.content l.layout l.initial.memory in
    g.M.Memory.IsOver l.layout l.memory × (now.forced ≡ before.forced)
    × (with_inputs before.forced now.values (drop l.input-index l.inputs) ≡ with_inputs before.forced before.values l.inputs)
