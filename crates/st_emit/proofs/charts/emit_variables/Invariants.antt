use Rattle.std.proofs.Common.{◌≡◌, ◌≤◌, ◌++◌, drop, length, map, reverse}
use Rattle.st_meaning.specs.Sketched.{variable_named}
use Rattle.st_code.specs.Code.{variables_code}
use Rattle.st_emit_expressions.specs.Trees.{whole_of}
use Rattle.st_emit.proofs.charts.emit_variables.Given as goal

-- the code of the names from this one on
abbrev pub invariant-loop-number : goal.invariant-loop-number
invariant-loop-number l =
    let root = (whole_of l.scope).variables in
    record {
      few : l.number ≤ length l.names;
      code : l.code ≡ l.fn.code ++ reverse (variables_code root (map (variable_named root) (drop l.number l.names)));
    }

abbrev pub decreases-loop-number : goal.decreases-loop-number
decreases-loop-number l = l.number
