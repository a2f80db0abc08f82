use Rattle.std.proofs.Common.{◌≡◌, drop}
use Rattle.st_types.specs.OwnTypes.{first_own, standard_own}
use Rattle.st_types.specs.Scopes.{scope_at}
use Rattle.st_check_expressions.specs.Calls.{owns_in}
use Rattle.st_check_expressions.specs.Known.{owns_of}
use Rattle.st_check_expressions.specs.Walk.{known_arguments, known_operations}
use Rattle.st_check_expressions.proofs.Owns.{typed_from}
use Rattle.st_check_expressions.proofs.own.+own.Given as goal

-- what is left has the first own type

abbrev pub invariant-own_of_operations-operations : goal.invariant-own_of_operations-operations
invariant-own_of_operations-operations l =
    first_own (owns_of (known_operations (scope_at l.scope) (drop l.operation-index l.operations)))
    ≡ first_own (owns_of (known_operations (scope_at l.scope) l.operations))

abbrev pub invariant-own_of_arguments-arguments : goal.invariant-own_of_arguments-arguments
invariant-own_of_arguments-arguments l =
    typed_from l.function l.is_first (known_arguments (scope_at l.scope) (drop l.argument-index l.arguments))
    ≡ standard_own l.function (owns_in (known_arguments (scope_at l.scope) l.arguments))
