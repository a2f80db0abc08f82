use Rattle.std.proofs.Common.{◌≡◌, drop}
use Rattle.st_faults.specs.Faults.{offer_all}
use Rattle.st_types.specs.Scopes.{scope_at}
use Rattle.st_check_expressions.specs.Calls.{arguments_faults}
use Rattle.st_check_expressions.specs.Inside.{operands_from}
use Rattle.st_check_expressions.specs.Variables.{parts_faults, select_all, subscripts_faults}
use Rattle.st_check_expressions.specs.Walk.{known_arguments, known_expressions, known_operations, known_parts}
use Rattle.st_check_expressions.proofs.check.+check.Given as goal

-- what is left to be offered gives what all give

abbrev pub invariant-check_operations-operations : goal.invariant-check_operations-operations
invariant-check_operations-operations l =
    offer_all l.first (operands_from (known_operations (scope_at l.scope) (drop l.operation-index l.operations)) l.due l.further_due)
    ≡ offer_all l.initial.first (operands_from (known_operations (scope_at l.scope) l.operations) l.initial.due l.further_due)

abbrev pub invariant-check_subscripts-subscripts : goal.invariant-check_subscripts-subscripts
invariant-check_subscripts-subscripts l =
    offer_all l.first (subscripts_faults (known_expressions (scope_at l.scope) (drop l.subscript-index l.subscripts)))
    ≡ offer_all l.initial.first (subscripts_faults (known_expressions (scope_at l.scope) l.subscripts))

abbrev pub invariant-check_parts-parts : goal.invariant-check_parts-parts
invariant-check_parts-parts l = record {
  route : select_all (scope_at l.scope) l.route (known_parts (scope_at l.scope) (drop l.part-index l.parts))
      ≡ select_all (scope_at l.scope) l.initial.route (known_parts (scope_at l.scope) l.parts);
  first : offer_all l.first (parts_faults (scope_at l.scope) l.route (known_parts (scope_at l.scope) (drop l.part-index l.parts)))
      ≡ offer_all l.initial.first (parts_faults (scope_at l.scope) l.initial.route (known_parts (scope_at l.scope) l.parts));
}

abbrev pub invariant-check_arguments-arguments : goal.invariant-check_arguments-arguments
invariant-check_arguments-arguments l =
    offer_all l.first (arguments_faults l.callee l.whole l.number (known_arguments (scope_at l.scope) (drop l.number l.arguments)))
    ≡ offer_all l.initial.first (arguments_faults l.callee l.whole 0 (known_arguments (scope_at l.scope) l.arguments))
