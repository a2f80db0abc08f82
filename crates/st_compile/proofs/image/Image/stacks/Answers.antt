use Rattle.std.proofs.Common.{◌≡◌, ◌∙◌, ap, subst}
use Rattle.std.proofs.lemmas.Result.{IfOk-weaker}
use Rattle.st_chart_runs.specs.Charts.{IsRoomFor}
use Rattle.st_machine.specs.Blocks.{UnitsView}
use Rattle.st_machine.specs.Levels.{Rooms}
use Rattle.st_compile.specs.Programs.{HasRoom, program_charts, program_depth, program_rooms}
use Rattle.st_compile.proofs.Coded.{has_room}
use Rattle.st_compile.proofs.image.Image.stacks.Goals as goal

pub returns : goal.returns
returns c =
    let own : c.self.inside.depth ≡ program_depth c.args.self.now = c.self.invariant.3 ∙ ap program_depth c.self.view_is in
    let levels : c.deref.result.now ≡ program_rooms c.args.self.now = c.deref.ensures.value ∙ c.self.invariant.4 ∙ ap program_rooms c.self.view_is in
    let charts : c.self.inside.units.charts ≡ program_charts c.args.self.now = ap (λ (u : UnitsView). u.charts) c.self.invariant.2 ∙ ap program_charts c.self.view_is in
    IfOk-weaker c.with_room.result (λ (stacks : Rooms). stacks ≡ record { own = c.self.inside.depth; levels = c.deref.result.now; charts = c.chart_room.result }) (λ stacks. HasRoom c.args.self.now stacks)
    (λ stacks is. has_room c.args.self.now stacks c.self.inside.depth c.deref.result.now c.chart_room.result is own levels (subst (λ cs. IsRoomFor cs c.chart_room.result) charts c.chart_room.ensures)) c.with_room.ensures
