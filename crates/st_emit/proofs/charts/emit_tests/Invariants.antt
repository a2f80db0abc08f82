use Rattle.std.proofs.Common.{◌≡◌, ◌≤◌, ◌++◌, drop, length, reverse, take}
use Rattle.std.specs.List.{flat_map}
use Rattle.st_meaning.specs.Sketched.{transitions_in}
use Rattle.st_code.specs.Code.{tests_code}
use Rattle.st_emit.specs.Charts.{tests_in}
use Rattle.st_emit_expressions.specs.Trees.{whole_of}
use Rattle.st_emit.proofs.charts.emit_tests.Given as goal

-- the code of the conditions from this element on
abbrev pub invariant-loop-i : goal.invariant-loop-i
invariant-loop-i l =
    let w = whole_of l.scope in
    record {
      few : l.i ≤ length l.elements;
      number : l.number ≡ length (flat_map transitions_in (take l.i l.elements));
      code : l.code ≡ l.fn.code ++ reverse (tests_code w.variables l.unit l.leaf l.number (tests_in w (drop l.i l.elements)));
    }

abbrev pub decreases-loop-i : goal.decreases-loop-i
decreases-loop-i l = l.i
