use Rattle.std.proofs.Common.{◌∙◌, ◌∷◌, ◌++◌, [], ap, nat_le}
use Rattle.st_control.proofs.Histories.{takes_accepted, takes_refused}
use Rattle.st_control.proofs.Records.{force_leaves}
use Rattle.st_control.specs.Controllers.{ControllerView}
use Rattle.st_control.specs.Machine.{leaf_to_force}
use Rattle.st_control.specs.States.{forced}
use Rattle.st_control.proofs.controller.Controller.force.Goals as goal

pub returns-in-Err-clause-step : goal.returns-in-Err-clause-step
returns-in-Err-clause-step g c =
    let before : ControllerView = record { state = c.self.inside.state; records = c.self.inside.records.items; main = c.self.inside.main; limit = c.self.inside.limit } in
    rw (← c.self.view_is)
    (takes_refused before (λ leaf. forced before.state leaf c.args.value) (λ full. leaf_to_force before.state full c.args.path.now c.args.value)
    c.len-full.result c.in-Err.refusal (c.len-full.ensures ∙ c.self.inside.records.ok.0) c.in-Err.ensures.value)

pub returns-in-Ok-clause-step : goal.returns-in-Ok-clause-step
returns-in-Ok-clause-step g c =
    let before : ControllerView = record { state = c.self.inside.state; records = c.self.inside.records.items; main = c.self.inside.main; limit = c.self.inside.limit } in
    rw (c.keep.ensures.items, ← c.self.view_is)
    (takes_accepted before (λ leaf. forced before.state leaf c.args.value) (λ full. leaf_to_force before.state full c.args.path.now c.args.value)
    c.len-full.result c.in-Ok.leaf c.force-newest.new.self c.force-newest.result
    (c.len-full.ensures ∙ c.self.inside.records.ok.0) c.in-Ok.ensures.value c.force-newest.ensures.new c.force-newest.ensures.back c.force-newest.ensures.kind)

pub returns-in-Ok-clause-record : goal.returns-in-Ok-clause-record
returns-in-Ok-clause-record g c =
    rw (← c.self.view_is)
    (c.keep.ensures.items
    ∙ ap (λ left. c.self.inside.records.items ++ left ∷ [])
    (c.force-newest.ensures.record ∙ force_leaves c.self.inside.state c.args.path.now c.args.value (nat_le 256 c.len-full.result) c.in-Ok.leaf c.in-Ok.ensures.value))
