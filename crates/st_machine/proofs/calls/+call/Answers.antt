use Rattle.std.proofs.Common.{◌≡◌, ◌≢◌, ◌∙◌, ◌+◌, ◌^◌, ◌<◌, [], ap, drop, get_or, length, pos, refl, sym, subst, take, Some, Result, Ok, Err, List, ◌∷◌, ℕ, ℤ, w64, arith, rules}
use Rattle.std.specs.List.{All}
use Rattle.std.specs.Prelude.{slice_index_or}
use Rattle.std.proofs.lemmas.Int.{to_z-of_z}
use Rattle.std.proofs.lemmas.Result.{err_from_is_err_and}
use Rattle.st_values.specs.Values.{IsValue}
use Rattle.st_values.specs.declared.value.Value.{Value}
use Rattle.st_meaning.specs.Meaning.{no_value}
use Rattle.st_meaning.specs.Operations.{stop, stops}
use Rattle.st_meaning.specs.Statements.{Outcome}
use Rattle.st_meaning.specs.Units.{result_given, result_of}
use Rattle.st_code.specs.Beside.{line_at}
use Rattle.st_code.specs.Code.{cell_of}
use Rattle.st_code.specs.Machine.{Reaches, act, state, values_in}
use Rattle.st_code.specs.declared.instr.Instr.{Instr}
use Rattle.st_code.specs.declared.instr.Instr.TheVariants.{Call, Push}
use Rattle.st_machine.specs.Functions.{AreFunctions, CallOf, FunctionView, GivesAs, begun_by, cells_on, function_run, given_by}
use Rattle.st_machine.specs.Levels.{LevelView, Said, environment_with, no_room, rooms_of}
use Rattle.st_instructions.specs.Moves.{moved, place_after}
use Rattle.st_machine.specs.Running.{followed, stop_of}
use Rattle.st_machine.specs.declared.run.Halt.{Halt}
use Rattle.st_machine.specs.declared.stacks.Room.{Room}
use Rattle.st_machine.proofs.Arrivals.{instrs_of}
use Rattle.st_machine.proofs.InFunction.{IsHere, call_does, cells_are, enough, first_is, gives_result, inner, is_here, its_answer, its_end, its_way, room_is, stays_here, stops_further, stops_inside, turn_of, values_are}
use Rattle.st_machine.proofs.Rooms.{room_of, room_there, rooms_below, rooms_many}
use Rattle.st_machine.proofs.Stays.{Stays, acts_alike}
use Rattle.st_machine.proofs.Way.{Leads, Turn, beyond_code, ends_run, few_in_code, finds, instr_is, leads, leads_on, stops_run, way_ends, within_code}
use Rattle.st_machine.proofs.calls.+call.Goals as goal
use Rattle.st_machine.proofs.calls.+call.Goals.{After-clear, After-perform-to, In-loop-place}

-- ---- before the run

pub newest-requires : goal.newest-requires
newest-requires t c =
    let f = c.index-functions-number.result in
    let rooms = rooms_of c.args.levels.now in
    let here = is_here c.args.number c.args.inputs c.args.below c.args.functions.now rooms c.args.stack.now c.requires.may f c.index-functions-number.is in
    enough c.args.number c.args.inputs c.args.below c.args.functions.now rooms c.args.stack.now c.requires.may f here

pub set_variables-requires-clause-cells : goal.set_variables-requires-clause-cells
set_variables-requires-clause-cells t c =
    let f = c.index-functions-number.result in
    let rooms = rooms_of c.args.levels.now in
    let here = is_here c.args.number c.args.inputs c.args.below c.args.functions.now rooms c.args.stack.now c.requires.may f c.index-functions-number.is in
    rw c.newest.ensures (cells_are c.args.number c.args.inputs c.args.below c.args.functions.now rooms c.args.stack.now c.requires.may f here)

pub set_variables-requires-clause-room : goal.set_variables-requires-clause-room
set_variables-requires-clause-room t c =
    let f = c.index-functions-number.result in
    let rooms = rooms_of c.args.levels.now in
    let halves = c.split_at_mut-lower.ensures in
    let here = is_here c.args.number c.args.inputs c.args.below c.args.functions.now rooms c.args.stack.now c.requires.may f c.index-functions-number.is in
    let its = room_there c.args.levels.now c.split_at_mut-lower.result.0.now c.split_at_mut-lower.result.1.now f.level halves.value (halves.front_len ∙ c.level.ensures) here.below c.index-upper-0.result in
    room_is c.args.number c.args.inputs c.args.below c.args.functions.now rooms c.args.stack.now c.requires.may f here _
    (ap length c.as_mut_slice-variables.ensures.value ∙ ap (λ (l : LevelView). length l.variables) c.level-2.view_is ∙ ap (λ (r : Room). r.variables) its)

-- ---- the run

module _ (t : ℕ) (c : After-clear t) where
  abbrev f : FunctionView
  f = c.index-functions-number.result

  abbrev rooms : List Room
  rooms = rooms_of c.args.levels.now

  abbrev room : ℕ
  room = c.clear.new.self.1

  abbrev Called : Type 0
  Called = CallOf c.args.number c.args.inputs c.args.below c.args.functions.now rooms c.args.stack.now

  here : IsHere c.args.functions.now rooms c.args.number c.args.inputs f
  here = is_here c.args.number c.args.inputs c.args.below c.args.functions.now rooms c.args.stack.now c.requires.may f c.index-functions-number.is

  set : c.set_variables.new.variables ≡ begun_by f.starts (values_in f.inputs (cells_on c.args.inputs c.args.stack.now.0))
  set = c.set_variables.ensures ∙ ap (λ cells. begun_by f.starts (values_in f.inputs cells)) c.newest.ensures

  its : room_of (slice_index_or c.split_at_mut-lower.result.1.now 0 c.index-upper-0.result) ≡ get_or rooms f.level no_room
  its =
      room_there c.args.levels.now c.split_at_mut-lower.result.0.now c.split_at_mut-lower.result.1.now f.level c.split_at_mut-lower.ensures.value
      (c.split_at_mut-lower.ensures.front_len ∙ c.level.ensures) here.below c.index-upper-0.result

  lower_is : rooms_of c.split_at_mut-lower.result.0.now ≡ take f.level rooms
  lower_is =
      rooms_below c.args.levels.now c.split_at_mut-lower.result.0.now c.split_at_mut-lower.result.1.now f.level c.split_at_mut-lower.ensures.value
      (c.split_at_mut-lower.ensures.front_len ∙ c.level.ensures)

  many_levels : f.level < length c.args.levels.now
  many_levels = omega (arith, here.below, rooms_many c.args.levels.now)

  many_variables : length c.set_variables.new.variables ≡ length f.starts
  many_variables =
      omega (
        arith,
        c.set_variables.auto.variables,
        room_is c.args.number c.args.inputs c.args.below c.args.functions.now rooms c.args.stack.now c.requires.may f here _
            (ap length c.as_mut_slice-variables.ensures.value ∙ ap (λ (l : LevelView). length l.variables) c.level-2.view_is ∙ ap (λ (r : Room). r.variables) its),
      )

  -- how it ends, and that it begins so
  abbrev end_of : Called → Outcome
  end_of e = its_end c.args.number c.args.inputs c.args.below c.args.functions.now rooms c.args.stack.now e f here c.args.limit

  begins : (e : Called) → Reaches (environment_with e.said (pos 0) []) room f.code (end_of e) (state 0 [] c.set_variables.new.variables c.args.limit)
  begins e =
      its_way c.args.number c.args.inputs c.args.below c.args.functions.now rooms c.args.stack.now e f here room c.set_variables.new.variables c.args.limit
      (c.clear.ensures.room ∙ ap (λ (l : LevelView). l.stack.1) c.level-2.view_is ∙ ap (λ (r : Room). r.stack) its) set

  answer : (e : Called) → function_run e.said c.args.number c.args.inputs c.args.stack.now.0 c.args.limit ≡ result_given (end_of e)
  answer e = its_answer c.args.number c.args.inputs c.args.below c.args.functions.now rooms c.args.stack.now e f here c.args.limit

pub loop-place-init : goal.loop-place-init
loop-place-init t c =
    let before = (goal.at.loop-place-init t c).After-clear in
    record {
      values = subst (All IsValue) (sym (set t before)) (values_are c.args.number c.args.inputs c.args.below c.args.functions.now (rooms t before) c.args.stack.now c.requires.may (f t before) (here t before));
      lower = refl;
      room = refl;
      steps = omega arith;
      way = λ said are o r.
          subst (λ s. Reaches (environment_with said (pos 0) []) c.clear.new.self.1 (f t before).code o (state 0 s c.set_variables.new.variables c.args.limit)) (sym c.clear.ensures.cells) r;
    }

-- ---- at an instruction

module _ (t : ℕ) (c : In-loop-place t) where
  abbrev b : After-clear t
  b = (goal.at.In-loop-place t c).After-clear

  abbrev place : ℕ
  place = c.loop-place.place

  abbrev instr : Instr
  instr = get_or c.instrs-instrs.result.now place (Push (pos 0))

  abbrev line : ℕ
  line = (line_at (f t b).code place).line

  instrs : c.instrs-instrs.result.now ≡ instrs_of (f t b).code
  instrs = c.instrs-instrs.ensures ∙ ap instrs_of c.code.ensures

  few : length (f t b).code < 2 ^ 64
  few = few_in_code (f t b).code c.instrs-instrs.result.now instrs (omega (arith, c.instrs-instrs.type_inv))

  inside : place < length (f t b).code
  inside = within_code (f t b).code c.instrs-instrs.result.now place instrs c.loop-place-test.true

  is : instr ≡ (line_at (f t b).code place).instr
  is = instr_is (f t b).code c.instrs-instrs.result.now place (Push (pos 0)) instrs inside

  -- each run that begins so has come to the instruction
  turn : (said : Said) → AreFunctions c.args.functions.now (rooms t b) said → (o : Outcome)
      → Reaches (environment_with said (pos 0) []) (room t b) (f t b).code o (state 0 [] c.set_variables.new.variables c.args.limit)
      → Turn (environment_with said (pos 0) []) (room t b) (f t b).code o place c.loop-place.own.0 c.loop-place.variables c.loop-place.left instr line
  turn said are o r =
      turn_of c.args.functions.now (rooms t b) said are c.args.number (f t b) (here t b).at (here t b).below (room t b) o place c.loop-place.own.0 c.loop-place.variables c.loop-place.left
      (c.loop-place.invariant.way said are o r) inside instr is

  -- the function that it calls may be called
  abbrev may_call_there : (said : Said) → AreFunctions c.args.functions.now (rooms t b) said → (o : Outcome)
      → Reaches (environment_with said (pos 0) []) (room t b) (f t b).code o (state 0 [] c.set_variables.new.variables c.args.limit)
      → (unit inputs below : ℕ) → instr ≡ Call unit inputs below → CallOf unit inputs below c.args.functions.now (rooms_of c.loop-place.lower) c.loop-place.own
  may_call_there said are o r unit inputs below calls =
      inner c.args.functions.now (rooms t b) said are c.args.number (f t b) (here t b).at (here t b).below (room t b) o place c.loop-place.own.0 c.loop-place.variables c.loop-place.left
      (c.loop-place.invariant.way said are o r) inside instr is unit inputs below calls (rooms_of c.loop-place.lower) (c.loop-place.invariant.lower ∙ lower_is t b) c.loop-place.own.1
      c.loop-place.invariant.room

  does_call : (said : Said) (are : AreFunctions c.args.functions.now (rooms t b) said) (o : Outcome)
      → Reaches (environment_with said (pos 0) []) (room t b) (f t b).code o (state 0 [] c.set_variables.new.variables c.args.limit)
      → (unit inputs below : ℕ) → instr ≡ Call unit inputs below → (r : Result ℕ Halt) (others : List ℤ)
      → GivesAs (given_by said unit inputs c.loop-place.own.0 c.loop-place.left) (drop (inputs + below) c.loop-place.own.0) others r
      → act (environment_with said (pos 0) []) (room t b) instr line place c.loop-place.own.0 c.loop-place.variables c.loop-place.left ≡ followed r place others c.loop-place.variables
  does_call said are o r unit inputs below calls result others given =
      call_does c.args.functions.now (rooms t b) said are c.args.number (f t b) (here t b).at (here t b).below (room t b) o place c.loop-place.own.0 c.loop-place.variables c.loop-place.left
      (c.loop-place.invariant.way said are o r) inside instr is unit inputs below calls result others given

pub call-requires : goal.call-requires
call-requires t c =
    let it = (goal.at.call-requires t c).In-loop-place in
    let before = b t it in
    let e = c.requires.may in (
      omega (arith, c.loop-place.auto.lower, c.split_at_mut-lower.ensures.front_len, c.split_at_mut-lower.ensures.back_len, c.level.ensures, many_levels t before),
      may_call_there t it e.said e.are (end_of t before e) (begins t before e) c.in-Call.unit c.in-Call.inputs c.in-Call.below c.in-Call.is,
    )

pub returns-in_err-left-clause-gives : goal.returns-in_err-left-clause-gives
returns-in_err-left-clause-gives t c =
    let it = (goal.at.returns-in_err-left-clause-gives t c).In-loop-place in
    let before = b t it in
    let returned = err_from_is_err_and c.from_residual.result c.from_residual.ensures.1 in
    rw (returned.1, returned.2) (λ (e : Called t before).
    let given = c.in_err-left.ensures.gives (may_call_there t it e.said e.are (end_of t before e) (begins t before e) c.in-Call.unit c.in-Call.inputs c.in-Call.below c.in-Call.is) in
    let ended = ends_run (turn t it e.said e.are (end_of t before e) (begins t before e)) (stop_of c.in_err-left.field-0.0)
    (does_call t it e.said e.are (end_of t before e) (begins t before e) c.in-Call.unit c.in-Call.inputs c.in-Call.below c.in-Call.is (Err c.in_err-left.field-0.0) c.call.new.stack.0 given) in
    stops_further c.args.number c.in-Call.unit (function_run e.said c.args.number c.args.inputs c.args.stack.now.0 c.args.limit)
    (function_run e.said c.in-Call.unit c.in-Call.inputs c.loop-place.own.0 c.loop-place.left) (end_of t before e) c.in_err-left.field-0.0
    (drop (c.in-Call.inputs + c.in-Call.below) c.loop-place.own.0) c.call.new.stack.0 (answer t before e) ended given)

pub loop-place-preserved-in-Call : goal.loop-place-preserved-in-Call
loop-place-preserved-in-Call t c =
    let it = (goal.at.loop-place-preserved-in-Call t c).In-loop-place in
    record {
      values = c.loop-place.invariant.values;
      lower = c.call.ensures.rooms ∙ c.loop-place.invariant.lower;
      room = c.call.ensures.room ∙ c.loop-place.invariant.room;
      steps = omega (arith, c.in_ok-left.ensures.steps, c.loop-place.invariant.steps);
      way = λ said are o r.
          let given = c.in_ok-left.ensures.gives (may_call_there t it said are o r c.in-Call.unit c.in-Call.inputs c.in-Call.below c.in-Call.is) in
          (leads_on (turn t it said are o r) c.call.new.stack.0 c.loop-place.variables c.in_ok-left.left c.in_ok-left.ensures.steps
          (does_call t it said are o r c.in-Call.unit c.in-Call.inputs c.in-Call.below c.in-Call.is (Ok c.in_ok-left.left) c.call.new.stack.0 given)).onward;
    }

-- ---- an instruction that the machine does by itself

stays : (t : ℕ) (c : In-loop-place t) → ((unit inputs below : ℕ) → instr t c ≢ Call unit inputs below) → Stays (instr t c)
stays t c other =
    let before = b t c in
    let e = c.requires.may in
    stays_here c.args.functions.now (rooms t before) e.said e.are c.args.number (f t before) (here t before).at (here t before).below (room t before) (end_of t before e) (place t c)
    c.loop-place.own.0 c.loop-place.variables c.loop-place.left (c.loop-place.invariant.way e.said e.are (end_of t before e) (begins t before e)) (inside t c) (instr t c) (is t c) other

pub perform-to-requires : goal.perform-to-requires
perform-to-requires t c =
    let it = (goal.at.perform-to-requires t c).In-loop-place in
    let before = b t it in
    let e = c.requires.may in
    let stay = stays t it c.in_default.not-Call in
    record {
      values = c.loop-place.invariant.values;
      ready = rw c.loop-place.invariant.room (finds (turn t it e.said e.are (end_of t before e) (begins t before e)) stay);
    }

module _ (t : ℕ) (c : After-perform-to t) where
  abbrev at : In-loop-place t
  at = (goal.at.After-perform-to t c).In-loop-place

  does : (said : Said) → act (environment_with said (pos 0) []) (room t (b t at)) (instr t at) (line t at) c.loop-place.place c.loop-place.own.0 c.loop-place.variables c.loop-place.left
      ≡ moved c.perform-to.result (line t at) c.loop-place.place c.perform-to.new.stack.0 c.perform-to.new.variables c.perform-to.new.left
  does said =
      let done = rw c.loop-place.invariant.room at c.perform-to.ensures.does in
      acts_alike said (pos 0) [] (room t (b t at)) (instr t at) (line t at) c.loop-place.place c.loop-place.own.0 c.loop-place.variables c.loop-place.left (stays t at c.in_default.not-Call)
      ∙ done (line t at) c.loop-place.place

  led : (said : Said) (are : AreFunctions c.args.functions.now (rooms t (b t at)) said) (o : Outcome)
      → Reaches (environment_with said (pos 0) []) (room t (b t at)) (f t (b t at)).code o (state 0 [] c.set_variables.new.variables c.args.limit)
      → (other : ℕ) → place_after c.perform-to.result c.loop-place.place ≡ Ok other
      → Leads (environment_with said (pos 0) []) (room t (b t at)) (f t (b t at)).code o c.loop-place.place c.loop-place.left other c.perform-to.new.stack.0
      c.perform-to.new.variables c.perform-to.new.left
  led said are o r other after =
      leads (turn t at said are o r) (stays t at c.in_default.not-Call) c.perform-to.result other c.perform-to.new.stack.0 c.perform-to.new.variables c.perform-to.new.left
      (few t at) (does said) after

pub loop-place-smaller : goal.loop-place-smaller
loop-place-smaller t c =
    let it = (goal.at.loop-place-smaller t c).After-perform-to in
    let before = b t (at t it) in
    let e = c.requires.may in
    (led t it e.said e.are (end_of t before e) (begins t before e) c.in-Ok.other (sym c.place_after.ensures ∙ c.in-Ok.is)).lighter

pub loop-place-preserved : goal.loop-place-preserved
loop-place-preserved t c =
    let it = (goal.at.loop-place-preserved t c).After-perform-to in
    let before = b t (at t it) in
    let e = c.requires.may in
    let fewer = (led t it e.said e.are (end_of t before e) (begins t before e) c.in-Ok.other (sym c.place_after.ensures ∙ c.in-Ok.is)).steps in
    record {
      values = c.perform-to.ensures.values;
      lower = c.loop-place.invariant.lower;
      room = c.perform-to.ensures.room ∙ c.loop-place.invariant.room;
      steps = omega (arith, c.loop-place.invariant.steps, fewer);
      way = λ said are o r. (led t it said are o r c.in-Ok.other (sym c.place_after.ensures ∙ c.in-Ok.is)).onward;
    }

pub returns-in-Err-clause-gives : goal.returns-in-Err-clause-gives
returns-in-Err-clause-gives t c =
    let it = (goal.at.returns-in-Err-clause-gives t c).After-perform-to in
    let l = at t it in
    let before = b t l in
    λ (e : Called t before).
    stops_inside c.args.number (function_run e.said c.args.number c.args.inputs c.args.stack.now.0 c.args.limit) (end_of t before e) (stop c.in-Err.kind (line t l)) (answer t before e)
    (stops_run (turn t l e.said e.are (end_of t before e) (begins t before e)) c.perform-to.result c.in-Err.kind c.perform-to.new.stack.0 c.perform-to.new.variables c.perform-to.new.left
    (does t it e.said) (sym c.place_after.ensures ∙ c.in-Err.is))
    ∙ ap (λ n. stops (stop_of (record { kind = c.in-Err.kind; line = n; unit = Some c.args.number }))) (sym (c.line-line.ensures ∙ ap (λ lines. (line_at lines c.loop-place.place).line) c.code-in-Err.ensures))

-- ---- behind the run

pub load-requires-clause-below : goal.load-requires-clause-below
load-requires-clause-below t c =
    let before = (goal.at.load-requires-clause-below t c).After-clear in
    omega (arith, c.loop-place.auto.variables, many_variables t before, (here t before).some)

pub returns-clause-gives : goal.returns-clause-gives
returns-clause-gives t c =
    let before = (goal.at.returns-clause-gives t c).After-clear in
    let code = (f t before).code in
    let variables = c.loop-place.variables in
    let first : 0 < length variables = omega (arith, c.loop-place.auto.variables, many_variables t before, (here t before).some) in
    let instrs : c.instrs-instrs.result.now ≡ instrs_of code = c.instrs-instrs.ensures ∙ ap instrs_of c.code.ensures in
    let past = beyond_code code c.instrs-instrs.result.now c.loop-place.place instrs (omega (arith, c.loop-place-test.false)) in
    let result : result_of variables ≡ get_or variables 0 no_value = first_is variables no_value first in
    let cell = rw (to_z-of_z w64 c.load.result (search rules)) at c.push.ensures.cells in
    λ (e : Called t before). (
      result_of variables,
      gives_result c.args.number (function_run e.said c.args.number c.args.inputs c.args.stack.now.0 c.args.limit) (end_of t before e) variables c.loop-place.left (answer t before e)
          (way_ends (environment_with e.said (pos 0) []) (room t before) code (end_of t before e) c.loop-place.place c.loop-place.own.0 variables c.loop-place.left
          (c.loop-place.invariant.way e.said e.are (end_of t before e) (begins t before e)) past),
      cell ∙ ap (λ (n : ℤ). n ∷ c.lower.new.self.0) (c.load.ensures ∙ ap (λ (v : Value). cell_of v.bits) (sym result))
          ∙ ap (λ (ns : List ℤ). cell_of (result_of variables).bits ∷ ns) c.lower.ensures.cells,
    )
