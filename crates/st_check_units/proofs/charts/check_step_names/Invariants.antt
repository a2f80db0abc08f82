use Rattle.std.proofs.Common.{◌≡◌, drop}
use Rattle.std.specs.List.{flat_map}
use Rattle.st_faults.specs.Faults.{offer_all}
use Rattle.st_types.specs.Scopes.{scope_at}
use Rattle.st_check_units.specs.Charts.{step_name_faults}
use Rattle.st_check_units.proofs.charts.check_step_names.Given as goal

-- what is left gives what all give
abbrev pub invariant-loop-name : goal.invariant-loop-name
invariant-loop-name l =
    offer_all l.first (flat_map (step_name_faults (scope_at l.scope)) (drop l.name-index l.names))
    ≡ offer_all l.initial.first (flat_map (step_name_faults (scope_at l.scope)) l.names)
