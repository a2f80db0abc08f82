use Rattle.std.proofs.Common.{◌≡◌, ◌≤◌, ◌++◌, drop, length, reverse}
use Rattle.st_code.specs.Code.{moves_code}
use Rattle.st_emit_expressions.specs.Trees.{whole_of}
use Rattle.st_emit.specs.Moves.{moves_of}
use Rattle.st_emit.proofs.invocations.emit_moves.Given as goal

-- the code of the arguments from this one on
abbrev pub invariant-loop-i : goal.invariant-loop-i
invariant-loop-i l =
    let w = whole_of l.scope in
    record { few : l.i ≤ length l.arguments; code : l.code ≡ l.fn.code ++ reverse (moves_code w.variables (moves_of l.moved w l.instance.spelling (drop l.i l.arguments))) }

abbrev pub decreases-loop-i : goal.decreases-loop-i
decreases-loop-i l = l.i
