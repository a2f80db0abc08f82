use Rattle.std.proofs.Common.{◌≡◌, drop}
use Rattle.std.specs.List.{flat_map}
use Rattle.st_faults.specs.Faults.{offer_all}
use Rattle.st_types.specs.Scopes.{scope_at}
use Rattle.st_check_units.specs.Charts.{element_faults}
use Rattle.st_check_units.proofs.charts.check_elements.Given as goal

-- what is left gives what all give
abbrev pub invariant-loop-element : goal.invariant-loop-element
invariant-loop-element l =
    offer_all l.first (flat_map (element_faults (scope_at l.scope)) (drop l.element-index l.elements))
    ≡ offer_all l.initial.first (flat_map (element_faults (scope_at l.scope)) l.elements)
