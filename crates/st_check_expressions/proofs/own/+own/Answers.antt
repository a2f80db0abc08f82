use Rattle.std.proofs.Common.{◌∙◌, ap, sym, true, false}
use Rattle.st_types.specs.OwnTypes.{first_own}
use Rattle.st_types.specs.Scopes.{scope_at}
use Rattle.st_check_expressions.specs.Known.{Known, owns_of}
use Rattle.st_check_expressions.specs.Walk.{known, known_arguments, known_operations}
use Rattle.st_check_expressions.proofs.Owns.{compares_known, own_compares, own_left, own_others, typed}
use Rattle.st_check_expressions.proofs.own.+own.Goals as goal

pub own-returns-then-compares : goal.own-returns-then-compares
own-returns-then-compares t c =
    own_compares (scope_at c.args.scope.now) c.args.expression.now c.in-Chain.left c.in-Chain.operations c.in-Chain.field-0 c.in-Chain.is
    (compares_known (scope_at c.args.scope.now) c.as_slice.result.now c.in-Chain.operations c.compares.result true c.as_slice.ensures c.compares.ensures c.if-compares.true)

pub own-returns-then-is_some : goal.own-returns-then-is_some
own-returns-then-is_some t c =
    own_left (scope_at c.args.scope.now) c.args.expression.now c.in-Chain.left c.in-Chain.operations c.in-Chain.field-0 c.own-found.result c.in-Chain.is
    (compares_known (scope_at c.args.scope.now) c.as_slice.result.now c.in-Chain.operations c.compares.result false c.as_slice.ensures c.compares.ensures c.if-compares.false)
    (c.own-found.ensures ∙ ap (λ x. Known.own (known (scope_at c.args.scope.now) x)) c.get-in-Chain.ensures)
    (sym c.is_some.ensures ∙ c.if-is_some.true)

pub own-returns-else-is_some : goal.own-returns-else-is_some
own-returns-else-is_some t c =
    own_others (scope_at c.args.scope.now) c.args.expression.now c.in-Chain.left c.in-Chain.operations c.in-Chain.field-0 c.own-found.result c.own_of_operations.result c.in-Chain.is
    (compares_known (scope_at c.args.scope.now) c.as_slice.result.now c.in-Chain.operations c.compares.result false c.as_slice.ensures c.compares.ensures c.if-compares.false)
    (c.own-found.ensures ∙ ap (λ x. Known.own (known (scope_at c.args.scope.now) x)) c.get-in-Chain.ensures)
    (sym c.is_some.ensures ∙ c.if-is_some.false)
    (c.own_of_operations.ensures ∙ ap (λ ls. first_own (owns_of (known_operations (scope_at c.args.scope.now) ls))) c.as_slice-in-Chain.ensures)

pub own_of_arguments-arguments-init : goal.own_of_arguments-arguments-init
own_of_arguments-arguments-init t c = typed c.args.function (known_arguments (scope_at c.args.scope.now) c.args.arguments.now)
