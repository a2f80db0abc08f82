use Rattle.std.proofs.Common.{◌≡◌, ◌∙◌, List, ap, subst}
use Rattle.std.proofs.lemmas.Result.{err_from_is_err_and}
use Rattle.st_check.specs.Answers.{Explains}
use Rattle.st_control.specs.Texts.{refusal_of}
use Rattle.st_control.proofs.Texts.{accepted_only_memory}
use Rattle.st_control.proofs.check.check_program.Goals as goal
use Rattle.st_tree.specs.declared.tree.unit.Unit.{Unit as ProgramUnit}

pub returns-in_err-units-clause-only : goal.returns-in_err-units-clause-only
returns-in_err-units-clause-only c =
    let returned = err_from_is_err_and c.from_residual.result c.from_residual.ensures.1 in
    λ units accepted. rw (returned.1, returned.2) (ap refusal_of (c.in_err-units.ensures.only units accepted.0 accepted.1))

pub returns-in_err-check-clause-only : goal.returns-in_err-check-clause-only
returns-in_err-check-clause-only c =
    let returned = err_from_is_err_and c.from_residual-in_err-check.result c.from_residual-in_err-check.ensures.1 in
    λ units accepted.
    let same : c.in_ok-units.units.items ≡ units = c.in_ok-units.ensures.only units accepted.0 accepted.1 in
    rw (returned.1, returned.2)
    (accepted_only_memory units c.args.main.now c.in_err-check.field-0.0 accepted.2
    (subst (λ (it : List ProgramUnit). Explains it c.args.main.now c.in_err-check.field-0.0) same c.in_err-check.ensures.fault))

pub returns-clause-only : goal.returns-clause-only
returns-clause-only c = λ units accepted. c.in_ok-check.ensures.text ∙ c.in_ok-units.ensures.only units accepted.0 accepted.1
