use Rattle.std.proofs.Common.{◌∙◌, Bool, List, ap, arith, nat_le, subst}
use Rattle.std.specs.Prelude.{Err, Ok}
use Rattle.std.proofs.lemmas.Bool.Decides.{nat_tests}
use Rattle.std.proofs.lemmas.Result.{err_from_is_err_and}
use Rattle.st_control.proofs.ChangeSteps.{goes_over_done, goes_over_never, goes_over_refused}
use Rattle.st_control.proofs.Histories.{coherent-kept, is_full-records}
use Rattle.st_control.proofs.Unrenamed.{never_unpaired}
use Rattle.st_control.specs.Controllers.{ControllerView, GoesOver}
use Rattle.st_control.specs.Machine.{Heeds, change_causes}
use Rattle.st_control.specs.States.{StateView}
use Rattle.st_layout.specs.Pairs.{Pairs}
use Rattle.st_layout.specs.declared.renames.Rename.{Rename}
use Rattle.st_control.proofs.controller.Controller.go_over.Goals as goal

pub returns-in_err-plan-clause-step : goal.returns-in_err-plan-clause-step
returns-in_err-plan-clause-step g c =
    let before : ControllerView = record { state = c.self.inside.state; records = c.self.inside.records.items; main = c.self.inside.main; limit = c.self.inside.limit } in
    let full : Bool = nat_le 256 c.len-full.result in
    let refusal = c.in_err-plan.field-0.0 in
    let returned = err_from_is_err_and c.from_residual.result c.from_residual.ensures.1 in
    let causes = subst (λ (renames : List Rename). Heeds {A = Pairs} (change_causes before.state full renames c.args.image) (Err refusal)) c.as_slice.ensures c.in_err-plan.ensures.causes in
    rw (returned.1, returned.2)
    (subst (λ (it : ControllerView). GoesOver c.args.image c.args.renames it (Err refusal) it) c.self.view_is
    (goes_over_refused before c.args.image c.args.renames full refusal (is_full-records before c.len-full.result (c.len-full.ensures ∙ c.self.inside.records.ok.0)) causes))

pub returns-in_err-newest-clause-step : goal.returns-in_err-newest-clause-step
returns-in_err-newest-clause-step g c =
    let after : StateView → ControllerView = λ s. record { state = s; records = c.self.inside.records.items; main = c.self.inside.main; limit = c.self.inside.limit } in
    let returned = err_from_is_err_and c.from_residual-in_err-newest.result c.from_residual-in_err-newest.ensures.1 in
    rw (returned.1, returned.2)
    (goes_over_never c.args.self.now (after c.change.new.self) c.args.image c.args.renames (ap after c.in_err-newest.ensures.err ∙ c.self.view_is))

pub invariant_of-self-2 : goal.invariant_of-self-2
invariant_of-self-2 g c = (
  omega arith,
  grind (arith, nat_tests, c.in_ok-plan.ensures.not_full),
  rw c.keep.ensures.items
      (coherent-kept c.self.inside.state c.change.new.self c.self.inside.records.items c.in_ok-newest.newest c.in_ok-newest.ensures.back c.in_ok-newest.ensures.fitting c.self.invariant.2),
)

pub returns-clause-step : goal.returns-clause-step
returns-clause-step g c =
    let before : ControllerView = record { state = c.self.inside.state; records = c.self.inside.records.items; main = c.self.inside.main; limit = c.self.inside.limit } in
    let full : Bool = nat_le 256 c.len-full.result in
    let causes = subst (λ (renames : List Rename). Heeds {A = Pairs} (change_causes before.state full renames c.args.image) (Ok c.in_ok-plan.plan)) c.as_slice.ensures c.in_ok-plan.ensures.causes in
    let later : ControllerView = record { state = c.change.new.self; records = c.keep.new.records.items; main = c.self.inside.main; limit = c.self.inside.limit } in
    subst (λ (it : ControllerView). GoesOver c.args.image c.args.renames it (Ok c.of-counts.result) later) c.self.view_is
    (rw c.keep.ensures.items
    (goes_over_done before c.args.image c.args.renames full c.change.new.self c.in_ok-newest.newest c.of-counts.result
    (is_full-records before c.len-full.result (c.len-full.ensures ∙ c.self.inside.records.ok.0)) causes c.in_ok-newest.ensures.new c.in_ok-newest.ensures.back
    c.in_ok-newest.ensures.kind))

pub returns-in_err-plan-clause-paired : goal.returns-in_err-plan-clause-paired
returns-in_err-plan-clause-paired g c =
    let before : ControllerView = record { state = c.self.inside.state; records = c.self.inside.records.items; main = c.self.inside.main; limit = c.self.inside.limit } in
    let full : Bool = nat_le 256 c.len-full.result in
    let refusal = c.in_err-plan.field-0.0 in
    let returned = err_from_is_err_and c.from_residual.result c.from_residual.ensures.1 in
    let causes = subst (λ (renames : List Rename). Heeds {A = Pairs} (change_causes before.state full renames c.args.image) (Err refusal)) c.as_slice.ensures c.in_err-plan.ensures.causes in
    rw (returned.1, returned.2) (λ none. never_unpaired before.state full c.args.renames c.args.image refusal c.tell_pairs.ensures none causes)

pub returns-in_err-newest-clause-paired : goal.returns-in_err-newest-clause-paired
returns-in_err-newest-clause-paired g c =
    let returned = err_from_is_err_and c.from_residual-in_err-newest.result c.from_residual-in_err-newest.ensures.1 in
    rw (returned.1, returned.2) (λ none is. absurd (cc))
