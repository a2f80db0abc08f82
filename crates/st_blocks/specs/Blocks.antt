-- The standard function blocks: what one invocation makes of their leaves (2.5.2.3, tables 34 to 37 and figure 15). All new
-- values follow from the old ones, the stored inputs among them, and the moment.
use Rattle.std.specs.Int.{int_max, int_min}
use Rattle.std.specs.Prelude.{ℤ, pos, negsuc, ◌+ℤ◌, ◌-ℤ◌, Bool, true, false, ◌&&◌, ◌||◌, not, int_le, int_lt, if◌then◌else◌}
use Rattle.st_blocks.specs.declared.bistable.Bistable.{Bistable}
use Rattle.st_blocks.specs.declared.counter.Counter.{Counter}
use Rattle.st_blocks.specs.declared.timer.Timer.{Timer}
use Rattle.st_blocks.specs.declared.ton.Ton.{Ton}
use Rattle.st_blocks.specs.declared.trigger.Trigger.{Trigger}

-- ---- bistable function blocks (2.5.2.3.1, table 34)

-- SR: Q1 := S1 OR (NOT R AND Q1)
abbrev pub set_dominant : Bistable → Bistable
set_dominant b = record b { q = b.set || (not b.reset && b.q) }

-- RS: Q1 := NOT R1 AND (S OR Q1)
abbrev pub reset_dominant : Bistable → Bistable
reset_dominant b = record b { q = not b.reset && (b.set || b.q) }

-- ---- edge detectors (2.5.2.3.2, table 35)

-- R_TRIG: Q := CLK AND NOT M; M := CLK
abbrev pub risen : Trigger → Trigger
risen t = record t { q = t.clk && not t.memory; memory = t.clk }

-- F_TRIG: Q := NOT CLK AND NOT M; M := NOT CLK
abbrev pub fallen : Trigger → Trigger
fallen t = record t { q = not t.clk && not t.memory; memory = not t.clk }

-- ---- counters (2.5.2.3.3, table 36), whose inputs CU and CD are R_EDGE

-- whether the counted input has turned TRUE
abbrev pub is_edge : Counter → Bool
is_edge c = c.pulse && not c.memory

-- CTU: IF R THEN CV := 0; ELSIF CU AND (CV < PVmax) THEN CV := CV + 1; END_IF
abbrev pub count_up : Counter → ℤ
count_up c = if c.restart then pos 0 else (if is_edge c && int_lt c.cv (pos 32767) then c.cv +ℤ pos 1 else c.cv)

-- Q := (CV >= PV)
abbrev pub counted_up : Counter → Counter
counted_up c = record c { q = int_le c.pv (count_up c); cv = count_up c; memory = c.pulse }

-- CTD: IF LD THEN CV := PV; ELSIF CD AND (CV > PVmin) THEN CV := CV - 1; END_IF; -32768 is `negsuc 32767`
abbrev pub count_down : Counter → ℤ
count_down c = if c.restart then c.pv else (if is_edge c && int_lt (negsuc 32767) c.cv then c.cv -ℤ pos 1 else c.cv)

-- Q := (CV <= 0)
abbrev pub counted_down : Counter → Counter
counted_down c = record c { q = int_le (count_down c) (pos 0); cv = count_down c; memory = c.pulse }

-- ---- timers (2.5.2.3.4, table 37 and figure 15): times and moments are whole milliseconds

-- for how long a timer runs: PT, or 0 where it is negative
abbrev pub preset : ℤ → ℤ
preset pt = int_max pt (pos 0)

-- for how long it has run at a moment: 0 where that lies before its start
abbrev pub elapsed : ℤ → ℤ → ℤ
elapsed start now = int_max (now -ℤ start) (pos 0)

-- whether it has run for PT
abbrev pub is_over : ℤ → ℤ → ℤ → Bool
is_over pt start now = int_le (preset pt) (elapsed start now)

-- ET: for how long it has run, at most PT
abbrev pub shown : ℤ → ℤ → ℤ → ℤ
shown pt start now = int_min (elapsed start now) (preset pt)

-- TON: the time runs from the call at which the input turns TRUE
abbrev pub on_start : Ton → ℤ → ℤ
on_start t now = if t.running then t.start else now

-- Q is TRUE where the input has been TRUE for PT.
abbrev pub on_delay : Ton → ℤ → Ton
on_delay t now =
    if t.input then
    record t { q = is_over t.pt (on_start t now) now; et = shown t.pt (on_start t now) now; running = true; start = on_start t now }
    else record t { q = false; et = pos 0; running = false; start = pos 0 }

-- TOF: the time runs from the call at which the input turns FALSE
abbrev pub off_start : Timer → ℤ → ℤ
off_start t now = if t.memory then now else t.start

-- Q is TRUE while the input is, and then until it has been FALSE for PT.
abbrev pub off_delay : Timer → ℤ → Timer
off_delay t now =
    if t.input then record t { q = true; et = pos 0; memory = true; running = false; start = pos 0 }
    else (if t.memory || t.running then
    record t {
      q = not (is_over t.pt (off_start t now) now);
      et = shown t.pt (off_start t now) now;
      memory = false;
      running = true;
      start = off_start t now;
    }
    else record t { q = false; et = pos 0; memory = false })

-- TP: while the time runs Q is TRUE, whatever the input does. Then an edge of the input starts it again; while the input stays
-- TRUE, ET stays PT; else all is as before the first pulse.
abbrev pub pulse : Timer → ℤ → Timer
pulse t now =
    if t.running && not (is_over t.pt t.start now) then record t { q = true; et = shown t.pt t.start now; memory = t.input }
    else (if t.input && not t.memory then
    record t { q = int_lt (pos 0) (preset t.pt); et = pos 0; memory = true; running = true; start = now }
    else (if t.running && t.input then record t { q = false; et = preset t.pt; memory = true }
    else record t { q = false; et = pos 0; memory = t.input; running = false; start = pos 0 }))
