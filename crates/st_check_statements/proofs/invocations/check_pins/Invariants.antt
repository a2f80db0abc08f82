use Rattle.std.proofs.Common.{◌≡◌, drop, map}
use Rattle.std.specs.List.{flat_map}
use Rattle.st_faults.specs.Faults.{offer_all}
use Rattle.st_types.specs.Scopes.{scope_at}
use Rattle.st_check_expressions.specs.Walk.{known_argument}
use Rattle.st_check_statements.specs.Invocations.{pin_faults}
use Rattle.st_check_statements.proofs.invocations.check_pins.Given as goal

-- what is left to be offered gives what all give
abbrev pub invariant-arguments : goal.invariant-arguments
invariant-arguments l =
    offer_all l.first (flat_map (pin_faults (scope_at l.scope) l.base l.around.counters) (map (known_argument (scope_at l.scope)) (drop l.argument-index l.arguments)))
    ≡ offer_all l.initial.first (flat_map (pin_faults (scope_at l.scope) l.base l.around.counters) (map (known_argument (scope_at l.scope)) l.arguments))
