use Rattle.std.proofs.Common.{◌≡◌, ◌≤◌, drop}
use Rattle.st_emit_expressions.specs.Calls.{own_from, positionals}
use Rattle.st_emit_expressions.specs.Trees.{own_behind, whole_of}
use Rattle.st_emit_expressions.proofs.own.+own.Given as goal

-- what is left has the answer
abbrev pub invariant-own_of_chain-loop-operation : goal.invariant-own_of_chain-loop-operation
invariant-own_of_chain-loop-operation l =
    own_behind (whole_of l.scope) l.found (drop l.operation-index l.operations) ≡ own_behind (whole_of l.scope) l.fn.first l.operations

abbrev pub invariant-own_of_arguments-loop-argument : goal.invariant-own_of_arguments-loop-argument
invariant-own_of_arguments-loop-argument l = record {
  few : l.number ≤ l.argument-index;
  left : own_from l.standard l.number (positionals (whole_of l.scope) (drop l.argument-index l.arguments)) ≡ own_from l.standard 0 (positionals (whole_of l.scope) l.arguments);
}
