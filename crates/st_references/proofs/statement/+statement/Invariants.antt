use Rattle.std.proofs.Common.{◌≡◌, ◌++◌, drop, map}
use Rattle.std.specs.List.{flat_map}
use Rattle.st_references.specs.Callers.{called_by}
use Rattle.st_references.specs.Calls.{all, case_element_calls, conditional_calls, statement_calls}
use Rattle.st_references.proofs.statement.+statement.Given as goal

-- with what is left the row becomes what it becomes with all

abbrev pub invariant-add_statements-items : goal.invariant-add_statements-items
invariant-add_statements-items l =
    l.row ++ flat_map (called_by l.caller) (all (map statement_calls (drop l.item-index l.statements)))
    ≡ l.initial.row ++ flat_map (called_by l.caller) (all (map statement_calls l.statements))

abbrev pub invariant-add_conditionals-items : goal.invariant-add_conditionals-items
invariant-add_conditionals-items l =
    l.row ++ flat_map (called_by l.caller) (all (map conditional_calls (drop l.item-index l.parts)))
    ≡ l.initial.row ++ flat_map (called_by l.caller) (all (map conditional_calls l.parts))

abbrev pub invariant-add_case_elements-items : goal.invariant-add_case_elements-items
invariant-add_case_elements-items l =
    l.row ++ flat_map (called_by l.caller) (all (map case_element_calls (drop l.item-index l.elements)))
    ≡ l.initial.row ++ flat_map (called_by l.caller) (all (map case_element_calls l.elements))
