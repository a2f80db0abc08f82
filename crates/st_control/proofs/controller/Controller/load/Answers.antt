use Rattle.std.proofs.Common.{◌∙◌, ap}
use Rattle.std.proofs.lemmas.Result.{err_from_is_err_and}
use Rattle.st_check.specs.Programs.{text_of}
use Rattle.st_control.specs.Controllers.{ControllerView}
use Rattle.st_control.proofs.Names.{main_short}
use Rattle.st_control.proofs.controller.Controller.load.Goals as goal

pub returns-in_err-image-clause-only : goal.returns-in_err-image-clause-only
returns-in_err-image-clause-only g c =
    let returned = err_from_is_err_and c.from_residual.result c.from_residual.ensures.1 in
    λ units accepted. rw (returned.1, returned.2) (c.in_err-image.ensures.only units accepted)

-- the name of a program that is checked is short
pub unwrap-name-requires : goal.unwrap-name-requires
unwrap-name-requires g c = c.of.ensures.short.1 (main_short c.args.text.now c.args.main.now c.in_ok-image.image c.in_ok-image.ensures.ok)

pub returns-clause-only : goal.returns-clause-only
returns-clause-only g c = λ units accepted.
    ap (λ (it : ControllerView). text_of it.state.program) c.in_ok-start.ensures.first ∙ c.in_ok-image.ensures.only units accepted
