use Rattle.std.proofs.Common.{◌≡◌, drop}
use Rattle.std.specs.List.{flat_map}
use Rattle.st_faults.specs.Faults.{offer_all}
use Rattle.st_types.specs.Scopes.{scope_at}
use Rattle.st_check_units.specs.Charts.{association_faults}
use Rattle.st_check_units.proofs.associations.check_associations.Given as goal

-- what is left gives what all give
abbrev pub invariant-loop-association : goal.invariant-loop-association
invariant-loop-association l =
    offer_all l.first (flat_map (association_faults (scope_at l.scope)) (drop l.association-index l.associations))
    ≡ offer_all l.initial.first (flat_map (association_faults (scope_at l.scope)) l.associations)
