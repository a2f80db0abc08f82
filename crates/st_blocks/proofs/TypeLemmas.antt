-- A block leaves each of its leaves a value of the leaf's type.
use Rattle.std.proofs.Common.{◌≡◌, ℕ, zero, suc, ◌<◌, ℤ, pos, negsuc, ◌+ℤ◌, ◌-ℤ◌, ◌≤ℤ◌, int_lt, Bool, true, false, ◌&&◌, List, [], ◌∷◌, length, get_or, if◌then◌else◌, IsTrue, refl, subst, arith}
use Rattle.std.specs.List.{AllZip}
use Rattle.std.proofs.lemmas.Int.{clamps, ints}
use Rattle.st_values.specs.Values.{in_range, truth, IsOfType}
use Rattle.st_values.specs.declared.elem.Elem.{Elem}
use Rattle.st_values.specs.declared.elem.Elem.TheVariants as elems
use Rattle.st_values.specs.declared.value.Value.{Value}
use Rattle.st_types.specs.declared.standard.StandardBlock.{StandardBlock}
use Rattle.st_types.specs.declared.standard.StandardBlock.TheVariants as blocks
use Rattle.st_blocks.specs.Blocks.{counted_down, counted_up, fallen, is_edge, is_over, off_delay, on_delay, preset, reset_dominant, risen, set_dominant, shown}
use Rattle.st_blocks.specs.Cells.{AreLeavesOf, bistable_cells, bistable_in, counter_cells, counter_in, number_at, timer_cells, timer_in, ton_cells, ton_in, trigger_cells, trigger_in, types_of}
use Rattle.st_blocks.specs.Laws.{BlocksKeepTheirTypes, IsWithin}
use Rattle.st_blocks.specs.declared.bistable.Bistable.{Bistable}
use Rattle.st_blocks.specs.declared.counter.Counter.{Counter}
use Rattle.st_blocks.specs.declared.timer.Timer.{Timer}
use Rattle.st_blocks.specs.declared.ton.Ton.{Ton}
use Rattle.st_blocks.specs.declared.trigger.Trigger.{Trigger}
use Rattle.st_blocks.proofs.RangeLemmas.{between}
use Rattle.st_blocks.proofs.TimeLemmas.{all_within, pulse_by, shown_within}

-- ---- what is read

-- each value has the type of its leaf
pub cell_typed : (types : List Elem) (cells : List Value) → AllZip IsOfType types cells → (n : ℕ) → n < length types
    → IsOfType (get_or types n elems.Bool) (get_or cells n (truth false))
cell_typed [] cells h n few = absurd (omega (arith, few))
cell_typed (t ∷ types) [] h n few = absurd h
cell_typed (t ∷ types) (v ∷ cells) h zero few = h.0
cell_typed (t ∷ types) (v ∷ cells) h (suc n) few = cell_typed types cells h.1 n (omega (arith, few))

number_typed : (kind : StandardBlock) (cells : List Value) (n : ℕ) → AreLeavesOf kind cells → n < length (types_of kind)
    → IsTrue (in_range (get_or (types_of kind) n elems.Bool) (number_at cells n))
number_typed kind cells n h few =
    let is = cell_typed (types_of kind) cells h n few in subst (λ e. IsTrue (in_range e (number_at cells n))) is.0 is.1

-- ---- records of values of their types

pub truth_typed : (b : Bool) → IsOfType elems.Bool (truth b)
truth_typed true = (refl, refl)
truth_typed false = (refl, refl)

trigger_typed : (t : Trigger) → AreLeavesOf blocks.RTrig (trigger_cells t)
trigger_typed t = (truth_typed t.clk, (truth_typed t.q, (truth_typed t.memory, tt)))

bistable_typed : (b : Bistable) → AreLeavesOf blocks.Sr (bistable_cells b)
bistable_typed b = (truth_typed b.set, (truth_typed b.reset, (truth_typed b.q, tt)))

abbrev IsInt : ℤ → Type 0
IsInt number = IsTrue (in_range elems.Int number)

abbrev IsTime : ℤ → Type 0
IsTime number = IsTrue (in_range elems.Time number)

counter_typed : (c : Counter) → IsInt c.pv → IsInt c.cv → AreLeavesOf blocks.Ctu (counter_cells c)
counter_typed c pv cv =
    (truth_typed c.pulse, (truth_typed c.restart, ((refl, pv), (truth_typed c.q, ((refl, cv), (truth_typed c.memory, tt))))))

ton_typed : (t : Ton) → IsTime t.pt → IsTime t.et → IsTime t.start → AreLeavesOf blocks.Ton (ton_cells t)
ton_typed t pt et start =
    (truth_typed t.input, ((refl, pt), (truth_typed t.q, ((refl, et), (truth_typed t.running, ((refl, start), tt))))))

timer_typed : (t : Timer) → IsTime t.pt → IsTime t.et → IsTime t.start → AreLeavesOf blocks.Tof (timer_cells t)
timer_typed t pt et start = (
  truth_typed t.input,
  ((refl, pt), (truth_typed t.q, ((refl, et), (truth_typed t.memory, (truth_typed t.running, ((refl, start), tt)))))),
)

-- ---- counters

up_is_int : (restart edge : Bool) (cv : ℤ) → IsInt cv
    → IsInt (if restart then pos 0 else (if edge && int_lt cv (pos 32767) then cv +ℤ pos 1 else cv))
up_is_int true edge cv h = refl
up_is_int false false cv h = h
up_is_int false true cv h = by (int_lt cv (pos 32767)) refl where
  by : (b : Bool) → int_lt cv (pos 32767) ≡ b → IsInt (if b then cv +ℤ pos 1 else cv)
  by true q =
      let above : cv ≤ℤ (cv +ℤ pos 1) = omega (arith, ints) in
      let under : (cv +ℤ pos 1) ≤ℤ pos 32767 = omega (arith, ints, q) in
      between elems.Int cv (pos 32767) (cv +ℤ pos 1) h refl above under
  by false q = h

down_is_int : (restart edge : Bool) (pv cv : ℤ) → IsInt pv → IsInt cv
    → IsInt (if restart then pv else (if edge && int_lt (negsuc 32767) cv then cv -ℤ pos 1 else cv))
down_is_int true edge pv cv g h = g
down_is_int false false pv cv g h = h
down_is_int false true pv cv g h = by (int_lt (negsuc 32767) cv) refl where
  by : (b : Bool) → int_lt (negsuc 32767) cv ≡ b → IsInt (if b then cv -ℤ pos 1 else cv)
  by true q =
      let above : negsuc 32767 ≤ℤ (cv -ℤ pos 1) = omega (arith, ints, q) in
      let under : (cv -ℤ pos 1) ≤ℤ cv = omega (arith, ints) in
      between elems.Int (negsuc 32767) cv (cv -ℤ pos 1) refl h above under
  by false q = h

-- ---- timers

within_is_time : (pt time : ℤ) → IsTime pt → IsWithin pt time → IsTime time
within_is_time (pos n) time h within =
    let under : time ≤ℤ pos n = omega (arith, ints, clamps, within.high) in between elems.Time (pos 0) (pos n) time refl h within.low under
within_is_time (negsuc n) time h within =
    let under : time ≤ℤ pos 0 = omega (arith, ints, clamps, within.high) in between elems.Time (pos 0) (pos 0) time refl refl within.low under

shown_is_time : (pt start now : ℤ) → IsTime pt → IsTime (shown pt start now)
shown_is_time pt start now h = within_is_time pt (shown pt start now) h (shown_within pt start now)

on_typed : (input running : Bool) (t : Ton) (now : ℤ) → IsTime now → IsTime t.pt → IsTime t.start
    → AreLeavesOf blocks.Ton (ton_cells (on_delay (record t { input = input; running = running }) now))
on_typed true true t now n pt start =
    ton_typed (on_delay (record t { input = true; running = true }) now) pt (shown_is_time t.pt t.start now pt) start
on_typed true false t now n pt start =
    ton_typed (on_delay (record t { input = true; running = false }) now) pt (shown_is_time t.pt now now pt) n
on_typed false running t now n pt start = ton_typed (on_delay (record t { input = false; running = running }) now) pt refl refl

off_typed : (input memory running : Bool) (t : Timer) (now : ℤ) → IsTime now → IsTime t.pt → IsTime t.start
    → AreLeavesOf blocks.Tof (timer_cells (off_delay (record t { input = input; memory = memory; running = running }) now))
off_typed true memory running t now n pt start =
    timer_typed (off_delay (record t { input = true; memory = memory; running = running }) now) pt refl refl
off_typed false true running t now n pt start =
    timer_typed (off_delay (record t { input = false; memory = true; running = running }) now) pt (shown_is_time t.pt now now pt) n
off_typed false false true t now n pt start =
    timer_typed (off_delay (record t { input = false; memory = false; running = true }) now) pt (shown_is_time t.pt t.start now pt) start
off_typed false false false t now n pt start =
    timer_typed (off_delay (record t { input = false; memory = false; running = false }) now) pt refl start

pulse_typed : (over running input memory : Bool) (t : Timer) (now : ℤ) → IsTime now → IsTime t.pt → IsTime t.start
    → AreLeavesOf blocks.Tp (timer_cells (pulse_by over (record t { input = input; memory = memory; running = running }) now))
pulse_typed false true input memory t now n pt start =
    timer_typed (pulse_by false (record t { input = input; memory = memory; running = true }) now) pt (shown_is_time t.pt t.start now pt) start
pulse_typed true true true false t now n pt start =
    timer_typed (pulse_by true (record t { input = true; memory = false; running = true }) now) pt refl n
pulse_typed true true true true t now n pt start =
    timer_typed (pulse_by true (record t { input = true; memory = true; running = true }) now) pt
    (within_is_time t.pt (preset t.pt) pt (all_within t.pt)) start
pulse_typed true true false memory t now n pt start =
    timer_typed (pulse_by true (record t { input = false; memory = memory; running = true }) now) pt refl refl
pulse_typed over false true false t now n pt start =
    timer_typed (pulse_by over (record t { input = true; memory = false; running = false }) now) pt refl n
pulse_typed over false true true t now n pt start =
    timer_typed (pulse_by over (record t { input = true; memory = true; running = false }) now) pt refl refl
pulse_typed over false false memory t now n pt start =
    timer_typed (pulse_by over (record t { input = false; memory = memory; running = false }) now) pt refl refl

-- ---- all blocks

pub blocks_keep_their_types : BlocksKeepTheirTypes
blocks_keep_their_types blocks.RTrig cells now n h = trigger_typed (risen (trigger_in cells))
blocks_keep_their_types blocks.FTrig cells now n h = trigger_typed (fallen (trigger_in cells))
blocks_keep_their_types blocks.Sr cells now n h = bistable_typed (set_dominant (bistable_in cells))
blocks_keep_their_types blocks.Rs cells now n h = bistable_typed (reset_dominant (bistable_in cells))
blocks_keep_their_types blocks.Ctu cells now n h =
    let c : Counter = counter_in cells in
    counter_typed (counted_up c) (number_typed blocks.Ctu cells 2 h (omega arith))
    (up_is_int c.restart (is_edge c) c.cv (number_typed blocks.Ctu cells 4 h (omega arith)))
blocks_keep_their_types blocks.Ctd cells now n h =
    let c : Counter = counter_in cells in
    let pv : IsInt c.pv = number_typed blocks.Ctd cells 2 h (omega arith) in
    counter_typed (counted_down c) pv (down_is_int c.restart (is_edge c) c.pv c.cv pv (number_typed blocks.Ctd cells 4 h (omega arith)))
blocks_keep_their_types blocks.Ton cells now n h =
    let t : Ton = ton_in cells in
    on_typed t.input t.running t now n (number_typed blocks.Ton cells 1 h (omega arith)) (number_typed blocks.Ton cells 5 h (omega arith))
blocks_keep_their_types blocks.Tof cells now n h =
    let t : Timer = timer_in cells in
    off_typed t.input t.memory t.running t now n (number_typed blocks.Tof cells 1 h (omega arith)) (number_typed blocks.Tof cells 6 h (omega arith))
blocks_keep_their_types blocks.Tp cells now n h =
    let t : Timer = timer_in cells in
    pulse_typed (is_over t.pt t.start now) t.running t.input t.memory t now n (number_typed blocks.Tp cells 1 h (omega arith))
    (number_typed blocks.Tp cells 6 h (omega arith))
