use Rattle.std.proofs.Common.{◌≡◌, drop, map}
use Rattle.st_types.specs.Scopes.{scope_at}
use Rattle.st_check_expressions.specs.Variables.{select_all}
use Rattle.st_check_expressions.specs.Walk.{known_part}
use Rattle.st_check_expressions.proofs.route.select_all.Given as goal

abbrev pub invariant-parts : goal.invariant-parts
invariant-parts l =
    select_all (scope_at l.scope) l.route (map (known_part (scope_at l.scope)) (drop l.part-index l.parts))
    ≡ select_all (scope_at l.scope) l.initial.route (map (known_part (scope_at l.scope)) l.parts)
