use Rattle.std.proofs.Common.{subst}
use Rattle.std.specs.Prelude.{Ok}
use Rattle.st_control.proofs.Histories.{takes_undo}
use Rattle.st_control.specs.Controllers.{ControllerView, TakesUndo}
use Rattle.st_control.proofs.controller.Controller.undo.Goals as goal

pub returns-in-Ok-clause-step : goal.returns-in-Ok-clause-step
returns-in-Ok-clause-step g c =
    let before : ControllerView = record { state = c.self.inside.state; records = c.self.inside.records.items; main = c.self.inside.main; limit = c.self.inside.limit } in
    let later : ControllerView = record { state = c.revert.new.state; records = c.pop.new.self.items; main = c.self.inside.main; limit = c.self.inside.limit } in
    subst (λ (it : ControllerView). TakesUndo {A = Unit {0}} it (Ok tt) later) c.self.view_is
    (takes_undo before c.pop.new.self.items c.in-Some.newest c.revert.new.state c.in-Some.ensures.items c.in-Ok.ensures.ok)
