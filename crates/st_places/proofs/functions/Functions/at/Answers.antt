use Rattle.std.proofs.Common.{◌∙◌, List, ap}
use Rattle.std.specs.List.{slice_get}
use Rattle.st_places.specs.Callables.{callable_function}
use Rattle.st_places.specs.declared.functions.Callable.{Callable}
use Rattle.st_places.proofs.Callables.{function_is}
use Rattle.st_places.proofs.functions.Functions.at.Goals as goal

pub returns : goal.returns
returns c = λ text are.
    c.function_in.ensures ∙ ap (λ (units : List Callable). callable_function (slice_get units c.args.number)) c.deref.ensures.value ∙ function_is text c.args.self.now are c.args.number
