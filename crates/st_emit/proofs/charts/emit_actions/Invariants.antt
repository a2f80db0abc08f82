use Rattle.std.proofs.Common.{◌≡◌, ◌≤◌, ◌+◌, ◌++◌, drop, length, reverse}
use Rattle.st_meaning.specs.Terms.{count_actions}
use Rattle.st_code.specs.Code.{actions_code}
use Rattle.st_emit.specs.Charts.{acts_in}
use Rattle.st_emit_expressions.specs.Trees.{whole_of}
use Rattle.st_emit.proofs.charts.emit_actions.Given as goal

-- the code of the actions from this element on
abbrev pub invariant-loop-i : goal.invariant-loop-i
invariant-loop-i l =
    let rest = acts_in (whole_of l.scope) (drop l.i l.elements) in
    record {
      few : l.left + l.i ≤ length l.elements;
      left : l.left ≡ count_actions rest;
      code : l.code ≡ l.fn.code ++ reverse (actions_code (whole_of l.scope).variables rest);
    }

abbrev pub decreases-loop-i : goal.decreases-loop-i
decreases-loop-i l = l.i
