use Rattle.std.proofs.Common.{refl}
use Rattle.st_control.proofs.controller.Controller.reset.Goals as goal

pub returns-clause-step : goal.returns-clause-step
returns-clause-step g c = rw (← c.self.view_is, c.clear.ensures.items, c.reset.ensures) refl
