use Rattle.std.proofs.Common.{ℕ, List, ◌∙◌, ap, subst}
use Rattle.std.proofs.lemmas.Result.{err_from_is_err_and}
use Rattle.st_control.proofs.ChangeSteps.{same_counts, takes_change}
use Rattle.st_control.proofs.Unrenamed.{text_is_other}
use Rattle.st_control.specs.Changes.{raised_renames}
use Rattle.st_control.specs.Controllers.{ControllerView, GoesOver}
use Rattle.st_control.specs.Texts.{IsProgramOf}
use Rattle.st_layout.specs.declared.renames.Rename.{Rename}
use Rattle.st_control.proofs.controller.Controller.change_named.Goals as goal

pub returns-clause-step : goal.returns-clause-step
returns-clause-step g c =
    let program = c.in_ok-image.image in
    let old : ControllerView = c.args.self.now in
    takes_change c.args.text.now program c.args.renames.items old c.go_over.new.self c.go_over.result
    (subst (λ (main : List ℕ). IsProgramOf c.args.text.now main program) (c.bytes.ensures.bytes ∙ ap (λ (it : ControllerView). it.main) c.self.view_is) c.in_ok-image.ensures.ok)
    (subst (λ (renames : List Rename). GoesOver program renames old c.go_over.result c.go_over.new.self) c.raised.ensures c.go_over.ensures.step)

pub returns-clause-counts : goal.returns-clause-counts
returns-clause-counts g c =
    same_counts c.go_over.result c.args.self.now.state c.args.renames.items c.raised.result c.go_over.new.self.state.program c.raised.ensures c.go_over.ensures.counts

pub returns-in_err-image-clause-paired : goal.returns-in_err-image-clause-paired
returns-in_err-image-clause-paired g c =
    let returned = err_from_is_err_and c.from_residual.result c.from_residual.ensures.1 in
    rw (returned.1, returned.2) (λ none. text_is_other c.args.text.now c.bytes.result.now c.in_err-image.field-0.0 c.in_err-image.ensures.refused)

pub returns-clause-paired : goal.returns-clause-paired
returns-clause-paired g c = λ none. c.go_over.ensures.paired (c.raised.ensures ∙ ap raised_renames none)
