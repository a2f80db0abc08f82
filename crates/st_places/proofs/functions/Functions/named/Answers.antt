use Rattle.std.proofs.Common.{◌∙◌, ap, sym}
use Rattle.std.specs.Option.{option_copied}
use Rattle.st_places.proofs.Callables.{named_is, unnamed}
use Rattle.st_places.proofs.functions.Functions.named.Goals as goal

pub returns-in_err-find : goal.returns-in_err-find
returns-in_err-find c = λ text are. ap option_copied c.from_residual.ensures ∙ unnamed text c.args.self.now are c.args.name.now (sym c.find.ensures.number ∙ c.in_err-find.was)

pub returns : goal.returns
returns c = λ text are.
    c.at.ensures text are ∙ named_is text c.args.self.now are c.args.name.now c.in_ok-find.field-0 (sym c.find.ensures.number ∙ c.in_ok-find.was)
