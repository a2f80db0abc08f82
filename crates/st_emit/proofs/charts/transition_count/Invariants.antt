use Rattle.std.proofs.Common.{◌≡◌, ◌≤◌, ◌+◌, drop, length}
use Rattle.std.specs.List.{flat_map}
use Rattle.st_meaning.specs.Sketched.{transitions_in}
use Rattle.st_emit.proofs.charts.transition_count.Given as goal

abbrev pub invariant-loop-element : goal.invariant-loop-element
invariant-loop-element l = record {
  few : l.count ≤ l.element-index;
  left : l.count + length (flat_map transitions_in (drop l.element-index l.elements)) ≡ length (flat_map transitions_in l.elements);
}
