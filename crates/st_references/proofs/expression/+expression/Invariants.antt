use Rattle.std.proofs.Common.{◌≡◌, ◌++◌, drop, map}
use Rattle.std.specs.List.{flat_map}
use Rattle.st_references.specs.Callers.{called_by}
use Rattle.st_references.specs.Calls.{all, argument_calls, expression_calls, operation_calls, part_calls}
use Rattle.st_references.proofs.expression.+expression.Given as goal

-- with what is left the row becomes what it becomes with all

abbrev pub invariant-add_operations-items : goal.invariant-add_operations-items
invariant-add_operations-items l =
    l.row ++ flat_map (called_by l.caller) (all (map operation_calls (drop l.item-index l.operations)))
    ≡ l.initial.row ++ flat_map (called_by l.caller) (all (map operation_calls l.operations))

abbrev pub invariant-add_variable-items : goal.invariant-add_variable-items
invariant-add_variable-items l =
    l.row ++ flat_map (called_by l.caller) (all (map part_calls (drop l.item-index l.item-items)))
    ≡ l.initial.row ++ flat_map (called_by l.caller) (all (map part_calls l.item-items))

abbrev pub invariant-add_subscripts-items : goal.invariant-add_subscripts-items
invariant-add_subscripts-items l =
    l.row ++ flat_map (called_by l.caller) (all (map expression_calls (drop l.item-index l.subscripts)))
    ≡ l.initial.row ++ flat_map (called_by l.caller) (all (map expression_calls l.subscripts))

abbrev pub invariant-add_call-items : goal.invariant-add_call-items
invariant-add_call-items l =
    l.row ++ flat_map (called_by l.caller) (all (map argument_calls (drop l.item-index l.item-items)))
    ≡ l.initial.row ++ flat_map (called_by l.caller) (all (map argument_calls l.item-items))
