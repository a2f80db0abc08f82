use Rattle.std.proofs.Common.{◌≡◌}
use Rattle.st_control.proofs.Resets.{reset_front}
use Rattle.st_control.proofs.scanning.reset_values.Given as goal

-- the leaves so far are reset
abbrev pub invariant-loop-leaf : goal.invariant-loop-leaf
invariant-loop-leaf g l =
    let now = g.M.Memory.content l.layout l.memory in
    let before = g.M.Memory.content l.layout l.initial.memory in
    g.M.Memory.IsOver l.layout l.memory × (now.forced ≡ before.forced) × (now.values ≡ reset_front l.layout before.forced before.values l.leaf)
