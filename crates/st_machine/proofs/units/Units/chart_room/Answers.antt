use Rattle.std.proofs.Common.{ap, subst, ◌∙◌}
use Rattle.st_chart_runs.specs.Charts.{IsRoomFor}
use Rattle.st_machine.specs.Blocks.{UnitsView}
use Rattle.st_machine.proofs.units.Units.chart_room.Goals as goal

pub returns : goal.returns
returns c =
    subst (λ charts. IsRoomFor charts c.room_for.result) (c.deref.ensures.value ∙ ap (λ (u : UnitsView). u.charts) c.self.view_is) c.room_for.ensures
