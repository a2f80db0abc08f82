use Rattle.std.proofs.Common.{◌≡◌, ℕ, drop, false, ◌∙◌, ◌+◌, ◌^◌, ◌<◌, ◌≤◌, ap, length, sym, subst, rules, w64, arith, take, get_or, List, Ok}
use Rattle.std.proofs.lemmas.Int.{to_z-of_z}
use Rattle.std.proofs.lemmas.Result.{err_from_is_err_and}
use Rattle.std.specs.Prelude.{slice_index_or}
use Rattle.st_memory.specs.Memory.{Content}
use Rattle.st_meaning.specs.Operations.{stop}
use Rattle.st_meaning.specs.Statements.{faulted}
use Rattle.st_chart_runs.specs.Views.{room_of}
use Rattle.st_code.specs.Fused.{is_own}
use Rattle.st_code.specs.Beside.{line_at}
use Rattle.st_code.specs.Code.{Line}
use Rattle.st_code.specs.Machine.{act}
use Rattle.st_code.specs.Relative.{among, clipped_from, code_from}
use Rattle.st_machine.specs.Functions.{function_run}
use Rattle.st_machine.specs.Blocks.{BlockView, Entrance, LeavesAs, Run, UnitWork, run_by}
use Rattle.st_machine.specs.Levels.{LevelView, environment_with, no_room, rooms_for, rooms_of}
use Rattle.st_machine.specs.Stretches.{Comes, IsNoFurther, IsWithin}
use Rattle.st_machine.specs.declared.stretches.Pause.{Pause}
use Rattle.st_machine.specs.declared.stretches.Pause.TheVariants.{End, Stop, Left}
use Rattle.st_instructions.specs.Moves.{moved, place_after}
use Rattle.st_machine.specs.Running.{stop_of}
use Rattle.st_machine.specs.declared.stacks.Room.{Room}
use Rattle.st_machine.proofs.Arrivals.{instrs_of}
use Rattle.st_machine.proofs.Calling.{given_in_unit}
use Rattle.st_machine.proofs.Entering.{left_in_unit}
use Rattle.st_machine.proofs.OwnCode.{work_of}
use Rattle.st_machine.proofs.Rooms.{room_there, rooms_below, rooms_many}
use Rattle.st_machine.proofs.Stays.{Stays, acts_alike, acts_same}
use Rattle.st_machine.proofs.UnitWorks.{call, calls, chart, enters, entrance}
use Rattle.st_machine.proofs.Way.{Leads, Turn, ends_run, few_in_code, finds, free, instr_is, leads, leads_on, lighter_behind, stops_run}
use Rattle.st_machine.proofs.Within.{IsAt, few_first, is_at, left_done, left_faulted, line_there, many_there, run_of, turn_of}
use Rattle.st_machine.proofs.instances.+enter.Given.{Over}
use Rattle.st_machine.proofs.instances.+enter.Goals as goal
use Rattle.st_machine.proofs.instances.+enter.Goals.{enter-After-code, enter-After-run_body, run_body-After-from_leaf-instr, run_body-After-perform-to, run_body-After-run_stretch-stretch}
use Rattle.st_blocks.proofs.RangeLemmas.{is_time}

-- ---- an instruction that needs the units

pub do_with_units-enter-requires : goal.do_with_units-enter-requires
do_with_units-enter-requires g t c κs within =
    (omega arith, (within, (c.requires.over, (entrance c.requires.may c.in-Enter.unit c.in-Enter.leaf c.in-Enter.is, c.requires.may.fit))))

pub do_with_units-returns-in-Enter-clause-does : goal.do_with_units-returns-in-Enter-clause-does
do_with_units-returns-in-Enter-clause-does g t c =
    let new = (g.M.Memory.content c.args.layout.now c.enter.new.memory).values in
    let made = rw (to_z-of_z w64 c.args.now (search rules)) at c.enter.ensures.leaves in
    (λ work.
    enters work c.in-Enter.unit c.in-Enter.leaf c.in-Enter.is c.enter.result new (made (entrance work c.in-Enter.unit c.in-Enter.leaf c.in-Enter.is)))

pub do_with_units-returns-in-Enter-clause-unit : goal.do_with_units-returns-in-Enter-clause-unit
do_with_units-returns-in-Enter-clause-unit g t c =
    let content = g.M.Memory.content c.args.layout.now c.args.memory.now in
    let new = (g.M.Memory.content c.args.layout.now c.enter.new.memory).values in
    let made = rw (to_z-of_z w64 c.args.now (search rules)) at c.enter.ensures.leaves in
    let may = c.requires.may in
    left_in_unit c.in-Enter.unit c.in-Enter.leaf content.values new (run_by may.said c.in-Enter.unit c.in-Enter.leaf c.args.now content c.args.limit) c.enter.result
    (made (entrance may c.in-Enter.unit c.in-Enter.leaf c.in-Enter.is))

pub do_with_units-call-requires : goal.do_with_units-call-requires
do_with_units-call-requires g t c =
    record { may = rw c.functions.ensures (call c.requires.may c.in-Call.unit c.in-Call.inputs c.in-Call.below c.in-Call.is) }

pub do_with_units-returns-in-Call-clause-does : goal.do_with_units-returns-in-Call-clause-does
do_with_units-returns-in-Call-clause-does g t c =
    let given = rw c.functions.ensures at c.call.ensures.gives in
    (λ work.
    calls work c.in-Call.unit c.in-Call.inputs c.in-Call.below c.in-Call.is c.call.result c.call.new.stack.0
    (given (call work c.in-Call.unit c.in-Call.inputs c.in-Call.below c.in-Call.is)))

pub do_with_units-returns-in-Call-clause-unit : goal.do_with_units-returns-in-Call-clause-unit
do_with_units-returns-in-Call-clause-unit g t c =
    let may = c.requires.may in
    let given = rw c.functions.ensures at c.call.ensures.gives in
    given_in_unit c.in-Call.unit (function_run may.said c.in-Call.unit c.in-Call.inputs c.args.stack.now.0 c.args.limit) (drop (c.in-Call.inputs + c.in-Call.below) c.args.stack.now.0)
    c.call.new.stack.0 c.call.result (given (call may c.in-Call.unit c.in-Call.inputs c.in-Call.below c.in-Call.is))

pub do_with_units-do_chart-requires-clause-work : goal.do_with_units-do_chart-requires-clause-work
do_with_units-do_chart-requires-clause-work g t c = rw (to_z-of_z w64 c.args.now (search rules), c.charts.ensures) (chart c.requires.may c.in_default.not-Enter c.in_default.not-Call)

pub do_with_units-returns-in_default-clause-does : goal.do_with_units-returns-in_default-clause-does
do_with_units-returns-in_default-clause-does g t c =
    let does = rw (to_z-of_z w64 c.args.now (search rules), c.charts.ensures) at c.do_chart.ensures.does in
    (λ work. does (chart work c.in_default.not-Enter c.in_default.not-Call))

-- ---- the run of a body

module _ (g : Over) (t : ℕ) (c : enter-After-code g t) where
  abbrev block : BlockView
  block = c.index-blocks-number.result

  abbrev rooms : List Room
  rooms = rooms_of c.args.levels.now

  abbrev room : ℕ
  room = c.level-2.inside.stack.1

  abbrev before : Content
  before = g.M.Memory.content c.args.layout.now c.args.memory.now

  abbrev Entered : Type 0
  Entered = Entrance c.args.number c.args.first c.args.units.now rooms c.args.layout.now

  few : length c.args.layout.now ≤ 65536
  few = c.len-leaves.ensures.sound.few

  here : IsAt c.args.number c.args.units.now.blocks rooms block
  here =
      is_at c.args.number c.args.first c.args.units.now rooms c.args.layout.now c.requires.may block
      (c.index-blocks-number.is ∙ ap (λ bs. slice_index_or bs c.args.number block) c.blocks-blocks.ensures)

  its : room ≡ (get_or rooms block.level no_room).stack
  its =
      ap (λ (l : LevelView). l.stack.1) c.level-2.view_is
      ∙ ap (λ (r : Room). r.stack)
      (room_there c.args.levels.now c.split_at_mut-lower.result.0.now c.split_at_mut-lower.result.1.now block.level c.split_at_mut-lower.ensures.value
      (c.split_at_mut-lower.ensures.front_len ∙ c.level.ensures) here.below c.index-upper-0.result)

  lower_is : rooms_of c.split_at_mut-lower.result.0.now ≡ take block.level rooms
  lower_is =
      rooms_below c.args.levels.now c.split_at_mut-lower.result.0.now c.split_at_mut-lower.result.1.now block.level c.split_at_mut-lower.ensures.value
      (c.split_at_mut-lower.ensures.front_len ∙ c.level.ensures)

  many_levels : block.level < length c.args.levels.now
  many_levels = omega (arith, here.below, rooms_many c.args.levels.now)

  first_few : c.args.first ≤ 65536
  first_few = few_first c.args.number c.args.first c.args.units.now rooms c.args.layout.now c.requires.may few

  abbrev body : (e : Entered) → Run (code_from c.args.first block.code) c.args.units.now (rooms_for room c.split_at_mut-lower.result.0.now (room_of c.args.work.now)) c.args.layout.now c.args.now before c.args.limit
  body e =
      run_of c.args.number c.args.first c.args.units.now rooms c.args.layout.now e block here (rooms_of c.split_at_mut-lower.result.0.now) lower_is few c.args.now before
      (g.met.M.Memory.fits c.args.layout.now c.args.memory.now c.requires.over) (is_time c.args.now c.ranges.now) room c.args.limit its (room_of c.args.work.now) c.requires.fit

pub enter-run_body-requires : goal.enter-run_body-requires
enter-run_body-requires g t c κs within =
    let it = (goal.at.enter-run_body-requires g t c).After-code in (
      omega (arith, c.split_at_mut-lower.ensures.front_len, c.level.ensures, many_levels g t it),
      (within, (c.requires.over, (first_few g t it, rw (to_z-of_z w64 c.args.now (search rules), c.code.ensures) (body g t it c.requires.may)))),
    )

module _ (g : Over) (t : ℕ) (c : enter-After-run_body g t) where
  abbrev b : enter-After-code g t
  b = (goal.at.enter-After-run_body g t c).After-code

  ends : (e : Entered g t b) → LeavesAs (among (before g t b).values c.args.first (run_by e.said c.args.number c.args.first c.args.now (before g t b) c.args.limit))
      (g.M.Memory.content c.args.layout.now c.run_body.new.memory).values c.run_body.result
  ends e =
      let ends = rw (to_z-of_z w64 c.args.now (search rules), c.code.ensures) at c.run_body.ensures.ends in
      ends (body g t b e)

pub enter-returns-in-Ok-clause-leaves : goal.enter-returns-in-Ok-clause-leaves
enter-returns-in-Ok-clause-leaves g t c =
    let it = (goal.at.enter-returns-in-Ok-clause-leaves g t c).After-run_body in
    let back = b g t it in
    let new = g.M.Memory.content c.args.layout.now c.run_body.new.memory in
    λ (e : Entered g t back).
    left_done (before g t back).values new.values c.args.number c.args.first c.in-Ok.left (run_by e.said c.args.number c.args.first c.args.now (before g t back) c.args.limit)
    (subst (LeavesAs (among (before g t back).values c.args.first (run_by e.said c.args.number c.args.first c.args.now (before g t back) c.args.limit)) new.values) c.in-Ok.is (ends g t it e))

pub enter-returns-in-Err-clause-leaves : goal.enter-returns-in-Err-clause-leaves
enter-returns-in-Err-clause-leaves g t c =
    let it = (goal.at.enter-returns-in-Err-clause-leaves g t c).After-run_body in
    let back = b g t it in
    let new = g.M.Memory.content c.args.layout.now c.run_body.new.memory in
    λ (e : Entered g t back).
    left_faulted (before g t back).values c.args.number c.args.first (stop_of c.in-Err.halt) (run_by e.said c.args.number c.args.first c.args.now (before g t back) c.args.limit)
    (subst (LeavesAs (among (before g t back).values c.args.first (run_by e.said c.args.number c.args.first c.args.now (before g t back) c.args.limit)) new.values) c.in-Err.is (ends g t it e))
    ∙ ap (λ x. faulted x) (sym c.within.ensures.stop)

-- ---- code, stretch by stretch

pub run_body-run_stretch-stretch-requires-clause-underway : goal.run_body-run_stretch-stretch-requires-clause-underway
run_body-run_stretch-stretch-requires-clause-underway g t c =
    let run = c.requires.runs in
    let way = rw (to_z-of_z w64 c.args.now (search rules)) at c.stretches.invariant.way in
    rw (to_z-of_z w64 c.args.now (search rules), c.stretches.invariant.forced, c.stretches.invariant.room)
    (record { said = run.said; outcome = run.outcome; comes = way run })

module _ (g : Over) (t : ℕ) (c : run_body-After-run_stretch-stretch g t) where
  abbrev code : List Line
  code = code_from c.args.first c.args.code.now

  abbrev start : Content
  start = g.M.Memory.content c.args.layout.now c.args.memory.now

  abbrev Begins : Type 0
  Begins = Run code c.args.units.now (rooms_for c.args.stack.now.1 c.args.levels.now (room_of c.args.work.now)) c.args.layout.now c.args.now start c.args.limit

  abbrev place : ℕ
  place = c.run_stretch-stretch.result.place

  abbrev content : Content
  content = g.M.Memory.content c.args.layout.now c.run_stretch-stretch.new.memory

  comes : (pause : Pause) → c.run_stretch-stretch.result.pause ≡ pause → (run : Begins)
      → Comes pause (environment_with run.said c.args.now start.forced) c.args.stack.now.1 code run.outcome place c.run_stretch-stretch.new.stack.0 content.values
      c.run_stretch-stretch.result.left
  comes pause same run =
      let way = rw (to_z-of_z w64 c.args.now (search rules)) at c.stretches.invariant.way in
      let pauses = rw (to_z-of_z w64 c.args.now (search rules), c.stretches.invariant.forced, c.stretches.invariant.room) at c.run_stretch-stretch.ensures.pauses in
      subst
      (λ p. Comes p (environment_with run.said c.args.now start.forced) c.args.stack.now.1 code run.outcome place c.run_stretch-stretch.new.stack.0 content.values
      c.run_stretch-stretch.result.left)
      same (pauses (record { said = run.said; outcome = run.outcome; comes = way run }))

  inside : (pause : Pause) → c.run_stretch-stretch.result.pause ≡ pause → IsWithin pause code place
  inside pause same = subst (λ p. IsWithin p code place) same c.run_stretch-stretch.ensures.inside

-- at an instruction that is left
module _ (g : Over) (t : ℕ) (c : run_body-After-from_leaf-instr g t) where
  abbrev at : run_body-After-run_stretch-stretch g t
  at = (goal.at.run_body-After-from_leaf-instr g t c).After-run_stretch-stretch

  abbrev line : ℕ
  line = (line_at c.args.code.now (place g t at)).line

  instrs : c.instrs-instrs.result.now ≡ instrs_of c.args.code.now
  instrs = c.instrs-instrs.ensures

  here_in : place g t at < length c.args.code.now
  here_in = omega (arith, inside g t at Left c.in-Left.is, many_there c.args.first c.args.code.now)

  small : length (code g t at) < 2 ^ 64
  small = omega (arith, many_there c.args.first c.args.code.now, few_in_code c.args.code.now c.instrs-instrs.result.now instrs (omega (arith, c.instrs-instrs.type_inv)))

  few_leaves : length c.args.layout.now ≤ 65536
  few_leaves = c.len-leaves.ensures.sound.few

  few_values : length (content g t at).values ≤ 65536
  few_values = omega (arith, (g.met.M.Memory.fits c.args.layout.now c.run_stretch-stretch.new.memory c.run_stretch-stretch.ensures.over).values, few_leaves)

  is : c.from_leaf-instr.result ≡ clipped_from c.args.first (line_at c.args.code.now (place g t at)).instr
  is = c.from_leaf-instr.ensures ∙ ap (clipped_from c.args.first) (instr_is c.args.code.now c.instrs-instrs.result.now (place g t at) _ instrs here_in)

  -- each run that begins so has come to it
  turn : (run : Begins g t at)
      → Turn (environment_with run.said c.args.now (start g t at).forced) c.args.stack.now.1 (code g t at) run.outcome (place g t at) c.run_stretch-stretch.new.stack.0 (content g t at).values
      c.run_stretch-stretch.result.left c.from_leaf-instr.result line
  turn run =
      turn_of (environment_with run.said c.args.now (start g t at).forced) c.args.stack.now.1 c.args.first c.args.code.now run.outcome (place g t at) c.run_stretch-stretch.new.stack.0
      (content g t at).values c.run_stretch-stretch.result.left few_values (comes g t at Left c.in-Left.is run) here_in c.from_leaf-instr.result is

  -- the callee has the forces and the room as they are now
  same : (run : Begins g t at)
      → act (environment_with run.said c.args.now (start g t at).forced) c.args.stack.now.1 c.from_leaf-instr.result line (place g t at) c.run_stretch-stretch.new.stack.0 (content g t at).values
      c.run_stretch-stretch.result.left
      ≡ act (environment_with run.said c.args.now (content g t at).forced) c.run_stretch-stretch.new.stack.1 c.from_leaf-instr.result line (place g t at) c.run_stretch-stretch.new.stack.0
      (content g t at).values c.run_stretch-stretch.result.left
  same run =
      acts_same run.said c.args.now c.from_leaf-instr.result line (place g t at) c.run_stretch-stretch.new.stack.0 (content g t at).values c.run_stretch-stretch.result.left (start g t at).forced
      (content g t at).forced c.args.stack.now.1 c.run_stretch-stretch.new.stack.1 (c.run_stretch-stretch.ensures.forced ∙ c.stretches.invariant.forced)
      (c.run_stretch-stretch.ensures.room ∙ c.stretches.invariant.room)

  -- and finds the units that it needs
  module _ (needs : is_own c.from_leaf-instr.result ≡ false) where
    abbrev work : Begins g t at
        → UnitWork c.from_leaf-instr.result c.args.units.now (rooms_of c.stretches.levels) (room_of c.stretches.work) c.args.layout.now c.args.now (content g t at) c.run_stretch-stretch.new.stack
        c.run_stretch-stretch.result.left
    work run =
        work_of c.args.first c.args.code.now c.args.units.now (rooms_for c.args.stack.now.1 c.args.levels.now (room_of c.args.work.now)) c.args.layout.now c.args.now (start g t at) c.args.limit run
        few_leaves (place g t at) here_in c.from_leaf-instr.result is (rooms_of c.stretches.levels) c.stretches.invariant.rooms (room_of c.stretches.work) c.stretches.invariant.charts
        (content g t at) c.run_stretch-stretch.new.stack c.run_stretch-stretch.result.left line needs (λ q. free (turn run) (same run ∙ q))

  -- it is no further from the end than the stretch began
  near : IsNoFurther Left (length (code g t at)) c.stretches.place c.stretches.left (place g t at) c.run_stretch-stretch.result.left
  near =
      subst (λ p. IsNoFurther p (length (code g t at)) c.stretches.place c.stretches.left (place g t at) c.run_stretch-stretch.result.left) c.in-Left.is c.run_stretch-stretch.ensures.nearer

-- ---- where the code ends

pub run_body-returns-in-End-clause-ends : goal.run_body-returns-in-End-clause-ends
run_body-returns-in-End-clause-ends g t c =
    let it = (goal.at.run_body-returns-in-End-clause-ends g t c).After-run_stretch-stretch in
    λ (run : Begins g t it). comes g t it End c.in-End.is run

pub run_body-returns-in-End-clause-steps : goal.run_body-returns-in-End-clause-steps
run_body-returns-in-End-clause-steps g t c =
    let n = length (code_from c.args.first c.args.code.now) in
    let fewer : c.run_stretch-stretch.result.left ≤ c.stretches.left =
    subst (λ p. IsNoFurther p n c.stretches.place c.stretches.left c.run_stretch-stretch.result.place c.run_stretch-stretch.result.left) c.in-End.is c.run_stretch-stretch.ensures.nearer
    in
    omega (arith, fewer, c.stretches.invariant.steps)

pub run_body-halt_at-requires : goal.run_body-halt_at-requires
run_body-halt_at-requires g t c =
    let it = (goal.at.run_body-halt_at-requires g t c).After-run_stretch-stretch in
    omega (arith, inside g t it (Stop c.in-Stop.kind) c.in-Stop.is, many_there c.args.first c.args.code.now)

pub run_body-returns-in-Stop-clause-ends : goal.run_body-returns-in-Stop-clause-ends
run_body-returns-in-Stop-clause-ends g t c =
    let it = (goal.at.run_body-returns-in-Stop-clause-ends g t c).After-run_stretch-stretch in
    let there : place g t it < length c.args.code.now = omega (arith, inside g t it (Stop c.in-Stop.kind) c.in-Stop.is, many_there c.args.first c.args.code.now) in
    λ (run : Begins g t it). rw c.halt_at.ensures
    (comes g t it (Stop c.in-Stop.kind) c.in-Stop.is run ∙ ap (λ (l : Line). faulted (stop c.in-Stop.kind l.line)) (line_there c.args.first c.args.code.now (place g t it) there))

-- ---- an instruction that needs the units

pub run_body-do_with_units-requires : goal.run_body-do_with_units-requires
run_body-do_with_units-requires g t c κs within =
    let it = (goal.at.run_body-do_with_units-requires g t c).After-from_leaf-instr in (
      omega (arith, c.stretches.auto.levels),
      (within, (c.run_stretch-stretch.ensures.over, rw (to_z-of_z w64 c.args.now (search rules)) (work g t it (sym c.is_own.ensures ∙ c.if-not-is_own.true) c.requires.runs))),
    )

pub run_body-returns-in_err-left-clause-ends : goal.run_body-returns-in_err-left-clause-ends
run_body-returns-in_err-left-clause-ends g t c =
    let it = (goal.at.run_body-returns-in_err-left-clause-ends g t c).After-from_leaf-instr in
    let halt = c.in_err-left.field-0.0 in
    let returned = err_from_is_err_and c.from_residual.result c.from_residual.ensures.1 in
    let does = rw (to_z-of_z w64 c.args.now (search rules)) at c.in_err-left.ensures.does in
    rw (returned.1, returned.2) (λ (run : Begins g t (at g t it)).
    ends_run (turn g t it run) (stop_of halt) (same g t it run ∙ does (work g t it (sym c.is_own.ensures ∙ c.if-not-is_own.true) run)))

pub run_body-stretches-preserved-then-not-is_own : goal.run_body-stretches-preserved-then-not-is_own
run_body-stretches-preserved-then-not-is_own g t c =
    let it = (goal.at.run_body-stretches-preserved-then-not-is_own g t c).After-from_leaf-instr in
    let new = (g.M.Memory.content c.args.layout.now c.do_with_units.new.memory).values in
    let does = rw (to_z-of_z w64 c.args.now (search rules)) at c.in_ok-left.ensures.does in
    record {
      over = c.do_with_units.ensures.over;
      forced = c.do_with_units.ensures.forced ∙ c.run_stretch-stretch.ensures.forced ∙ c.stretches.invariant.forced;
      room = c.do_with_units.ensures.room ∙ c.run_stretch-stretch.ensures.room ∙ c.stretches.invariant.room;
      rooms = c.do_with_units.ensures.rooms ∙ c.stretches.invariant.rooms;
      charts = c.do_with_units.ensures.charts ∙ c.stretches.invariant.charts;
      steps = omega (arith, c.in_ok-left.ensures.steps, (near g t it).0, c.stretches.invariant.steps);
      way = rw (to_z-of_z w64 c.args.now (search rules)) (λ (run : Begins g t (at g t it)).
          (leads_on (turn g t it run) c.do_with_units.new.stack.0 new c.in_ok-left.left c.in_ok-left.ensures.steps
          (same g t it run ∙ does (work g t it (sym c.is_own.ensures ∙ c.if-not-is_own.true) run))).onward);
    }

pub run_body-stretches-smaller-then-not-is_own : goal.run_body-stretches-smaller-then-not-is_own
run_body-stretches-smaller-then-not-is_own g t c =
    let it = (goal.at.run_body-stretches-smaller-then-not-is_own g t c).After-from_leaf-instr in
    let inside : place g t (at g t it) < length (code g t (at g t it)) = omega (arith, here_in g t it, many_there c.args.first c.args.code.now) in
    let behind = lighter_behind (length (code g t (at g t it))) (place g t (at g t it)) c.run_stretch-stretch.result.left c.in_ok-left.left inside c.in_ok-left.ensures.steps in
    omega (arith, behind, (near g t it).1)

-- ---- one that the machine does by itself

pub run_body-perform-to-requires-clause-few : goal.run_body-perform-to-requires-clause-few
run_body-perform-to-requires-clause-few g t c = few_values g t (goal.at.run_body-perform-to-requires-clause-few g t c).After-from_leaf-instr

pub run_body-perform-to-requires-clause-ready : goal.run_body-perform-to-requires-clause-ready
run_body-perform-to-requires-clause-ready g t c =
    let it = (goal.at.run_body-perform-to-requires-clause-ready g t c).After-from_leaf-instr in
    rw (c.run_stretch-stretch.ensures.room ∙ c.stretches.invariant.room) (finds (turn g t it c.requires.runs) (sym c.is_own.ensures ∙ c.if-not-is_own.false))

module _ (g : Over) (t : ℕ) (c : run_body-After-perform-to g t) where
  abbrev on : run_body-After-from_leaf-instr g t
  on = (goal.at.run_body-After-perform-to g t c).After-from_leaf-instr

  abbrev new : Content
  new = g.M.Memory.content c.args.layout.now c.perform-to.new.memory

  stays : Stays c.from_leaf-instr.result
  stays = sym c.is_own.ensures ∙ c.if-not-is_own.false

  does : (run : Begins g t (at g t on))
      → act (environment_with run.said c.args.now (start g t (at g t on)).forced) c.args.stack.now.1 c.from_leaf-instr.result (line g t on) (place g t (at g t on))
      c.run_stretch-stretch.new.stack.0 (content g t (at g t on)).values c.run_stretch-stretch.result.left
      ≡ moved c.perform-to.result (line g t on) (place g t (at g t on)) c.perform-to.new.stack.0 new.values c.perform-to.new.left
  does run =
      let done = rw (to_z-of_z w64 c.args.now (search rules)) at c.perform-to.ensures.does in
      same g t on run
      ∙ acts_alike run.said c.args.now (content g t (at g t on)).forced c.run_stretch-stretch.new.stack.1 c.from_leaf-instr.result (line g t on) (place g t (at g t on))
      c.run_stretch-stretch.new.stack.0 (content g t (at g t on)).values c.run_stretch-stretch.result.left stays
      ∙ done (line g t on) (place g t (at g t on))

  led : (run : Begins g t (at g t on)) (other : ℕ) → place_after c.perform-to.result (place g t (at g t on)) ≡ Ok other
      → Leads (environment_with run.said c.args.now (start g t (at g t on)).forced) c.args.stack.now.1 (code g t (at g t on)) run.outcome (place g t (at g t on))
      c.run_stretch-stretch.result.left other c.perform-to.new.stack.0 new.values c.perform-to.new.left
  led run other after =
      leads (turn g t on run) stays c.perform-to.result other c.perform-to.new.stack.0 new.values c.perform-to.new.left (small g t on) (does run) after

pub run_body-stretches-smaller : goal.run_body-stretches-smaller
run_body-stretches-smaller g t c =
    let it = (goal.at.run_body-stretches-smaller g t c).After-perform-to in
    omega (arith, (led g t it c.requires.runs c.in-Ok.other (sym c.place_after.ensures ∙ c.in-Ok.is)).lighter, (near g t (on g t it)).1)

pub run_body-stretches-preserved : goal.run_body-stretches-preserved
run_body-stretches-preserved g t c =
    let it = (goal.at.run_body-stretches-preserved g t c).After-perform-to in
    let fewer = (led g t it c.requires.runs c.in-Ok.other (sym c.place_after.ensures ∙ c.in-Ok.is)).steps in
    record {
      over = c.perform-to.ensures.over;
      forced = c.perform-to.ensures.forced ∙ c.run_stretch-stretch.ensures.forced ∙ c.stretches.invariant.forced;
      room = c.perform-to.ensures.room ∙ c.run_stretch-stretch.ensures.room ∙ c.stretches.invariant.room;
      rooms = c.stretches.invariant.rooms;
      charts = c.stretches.invariant.charts;
      steps = omega (arith, fewer, (near g t (on g t it)).0, c.stretches.invariant.steps);
      way = rw (to_z-of_z w64 c.args.now (search rules)) (λ (run : Begins g t (at g t (on g t it))). (led g t it run c.in-Ok.other (sym c.place_after.ensures ∙ c.in-Ok.is)).onward);
    }

pub run_body-returns-in-Err-clause-ends : goal.run_body-returns-in-Err-clause-ends
run_body-returns-in-Err-clause-ends g t c =
    let it = (goal.at.run_body-returns-in-Err-clause-ends g t c).After-perform-to in
    λ (run : Begins g t (at g t (on g t it))). rw c.halt_at-in-Err.ensures
    (stops_run (turn g t (on g t it) run) c.perform-to.result c.in-Err.kind c.perform-to.new.stack.0 (new g t it).values c.perform-to.new.left (does g t it run) (sym c.place_after.ensures ∙ c.in-Err.is))
