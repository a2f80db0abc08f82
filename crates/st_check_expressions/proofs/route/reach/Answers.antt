use Rattle.st_types.specs.Scopes.{scope_at}
use Rattle.st_check_expressions.proofs.Folds.{reached_done}
use Rattle.st_check_expressions.proofs.route.reach.Goals as goal

pub returns : goal.returns
returns c =
    reached_done (scope_at c.args.scope.now) c.args.variable.now c.start_of-route.result c.as_slice.result.now c.select_all.result
    c.start_of-route.ensures.start c.as_slice.ensures c.select_all.ensures
