use Rattle.std.proofs.Common.{◌≡◌, ◌≤◌, ◌+◌, drop, length}
use Rattle.st_emit_expressions.specs.Calls.{passed_in}
use Rattle.st_emit_expressions.specs.Trees.{whole_of}
use Rattle.st_emit_expressions.proofs.functions.passed_count.Given as goal

abbrev pub invariant-loop-argument : goal.invariant-loop-argument
invariant-loop-argument l = record {
  few : l.count ≤ l.argument-index;
  left : l.count + length (passed_in (whole_of l.scope) (drop l.argument-index l.arguments)) ≡ length (passed_in (whole_of l.scope) l.arguments);
}
