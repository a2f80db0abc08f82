use Rattle.std.proofs.Common.{◌∙◌}
use Rattle.st_control.proofs.Histories.{takes_accepted, takes_refused}
use Rattle.st_control.specs.Controllers.{ControllerView}
use Rattle.st_control.specs.Machine.{leaf_to_release}
use Rattle.st_control.specs.States.{released}
use Rattle.st_control.proofs.controller.Controller.release.Goals as goal

pub returns-in-Err-clause-step : goal.returns-in-Err-clause-step
returns-in-Err-clause-step g c =
    let before : ControllerView = record { state = c.self.inside.state; records = c.self.inside.records.items; main = c.self.inside.main; limit = c.self.inside.limit } in
    rw (← c.self.view_is)
    (takes_refused before (λ leaf. released before.state leaf) (λ full. leaf_to_release before.state full c.args.path.now)
    c.len-full.result c.in-Err.refusal (c.len-full.ensures ∙ c.self.inside.records.ok.0) c.in-Err.ensures.value)

pub returns-in-Ok-clause-step : goal.returns-in-Ok-clause-step
returns-in-Ok-clause-step g c =
    let before : ControllerView = record { state = c.self.inside.state; records = c.self.inside.records.items; main = c.self.inside.main; limit = c.self.inside.limit } in
    rw (c.keep.ensures.items, ← c.self.view_is)
    (takes_accepted before (λ leaf. released before.state leaf) (λ full. leaf_to_release before.state full c.args.path.now)
    c.len-full.result c.in-Ok.leaf c.release-newest.new.self c.release-newest.result
    (c.len-full.ensures ∙ c.self.inside.records.ok.0) c.in-Ok.ensures.value c.release-newest.ensures.new c.release-newest.ensures.back c.release-newest.ensures.kind)
