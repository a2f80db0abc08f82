use Rattle.std.proofs.Common.{◌≡◌, drop, map}
use Rattle.std.specs.List.{flat_map}
use Rattle.st_faults.specs.Faults.{offer_all}
use Rattle.st_types.specs.Scopes.{scope_at}
use Rattle.st_check_statements.specs.Statements.{all_faults, element_faults, part_faults, statement_faults}
use Rattle.st_check_statements.proofs.statements.+check.Given as goal

-- what is left to be offered gives what all give

abbrev pub invariant-check_statements-statements : goal.invariant-check_statements-statements
invariant-check_statements-statements l =
    offer_all l.first (all_faults (map (statement_faults (scope_at l.scope)) (drop l.statement-index l.statements)) l.around)
    ≡ offer_all l.initial.first (all_faults (map (statement_faults (scope_at l.scope)) l.statements) l.around)

abbrev pub invariant-check_parts-parts : goal.invariant-check_parts-parts
invariant-check_parts-parts l =
    offer_all l.first (all_faults (map (part_faults (scope_at l.scope)) (drop l.part-index l.parts)) l.around)
    ≡ offer_all l.initial.first (all_faults (map (part_faults (scope_at l.scope)) l.parts) l.around)

abbrev pub invariant-check_elements-elements : goal.invariant-check_elements-elements
invariant-check_elements-elements l =
    offer_all l.first (flat_map (λ c. c l.elem l.around) (map (element_faults (scope_at l.scope)) (drop l.element-index l.elements)))
    ≡ offer_all l.initial.first (flat_map (λ c. c l.elem l.around) (map (element_faults (scope_at l.scope)) l.elements))
