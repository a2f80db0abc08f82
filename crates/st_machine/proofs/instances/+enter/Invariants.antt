use Rattle.std.proofs.Common.{◌≡◌, ◌≤◌, ◌*◌, ◌+◌, length}
use Rattle.st_chart_runs.specs.Views.{room_of}
use Rattle.st_code.specs.Machine.{Reaches, state}
use Rattle.st_code.specs.Relative.{code_from}
use Rattle.st_machine.specs.Blocks.{Run}
use Rattle.st_machine.specs.Levels.{environment_with, rooms_for, rooms_of}
use Rattle.st_machine.proofs.Ends.{weight}
use Rattle.st_machine.proofs.instances.+enter.Given as goal

-- an instance has as many levels as stand before its own
abbrev pub decreases-enter : goal.decreases-enter
decreases-enter g l = 3 * length l.levels.now

abbrev pub decreases-do_with_units : goal.decreases-do_with_units
decreases-do_with_units g l = 3 * length l.levels.now + 1

abbrev pub decreases-run_body : goal.decreases-run_body
decreases-run_body g l = 3 * length l.levels.now + 2

-- each run that begins so is on its way
abbrev pub invariant-run_body-stretches : goal.invariant-run_body-stretches
invariant-run_body-stretches g l =
    let before = g.M.Memory.content l.layout l.fn.memory in
    let content = g.M.Memory.content l.layout l.memory in
    record {
      over : g.M.Memory.IsOver l.layout l.memory;
      forced : content.forced ≡ before.forced;
      room : l.stack.1 ≡ l.fn.stack.1;
      rooms : rooms_of l.levels ≡ rooms_of l.fn.levels;
      charts : room_of l.work ≡ room_of l.fn.work;
      steps : l.left ≤ l.limit;
      way : (run : Run (code_from l.first l.code) l.units (rooms_for l.fn.stack.1 l.fn.levels (room_of l.fn.work)) l.layout l.fn.now before l.limit)
          → Reaches (environment_with run.said l.fn.now before.forced) l.fn.stack.1 (code_from l.first l.code) run.outcome (state l.place l.stack.0 content.values l.left);
    }

abbrev pub decreases-run_body-stretches : goal.decreases-run_body-stretches
decreases-run_body-stretches g l = weight (length (code_from l.first l.code)) l.place l.left
