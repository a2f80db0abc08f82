use Rattle.std.proofs.Common.{◌∙◌, List, ap, sym}
use Rattle.std.specs.List.{slice_get}
use Rattle.std.specs.Option.{option_copied}
use Rattle.st_places.specs.declared.functions.Callable.{Callable}
use Rattle.st_places.proofs.Callables.{known_starts, no_starts}
use Rattle.st_places.proofs.functions.Functions.starts.Goals as goal

pub returns-in-Some : goal.returns-in-Some
returns-in-Some c = λ text are elementary.
    c.as_slice.ensures
    ∙ known_starts text elementary c.args.self.now are c.args.number c.in-Some.callable.now
    (sym (c.callable_at.ensures ∙ ap (λ (units : List Callable). slice_get units c.args.number) c.deref.ensures.value) ∙ ap option_copied c.in-Some.is)

pub returns-in-None : goal.returns-in-None
returns-in-None c = λ text are elementary.
    no_starts text elementary c.args.self.now are c.args.number
    (sym (c.callable_at.ensures ∙ ap (λ (units : List Callable). slice_get units c.args.number) c.deref.ensures.value) ∙ ap option_copied c.in-None.is)
