-- ET lies from 0 to PT.
use Rattle.std.proofs.Common.{ℤ, pos, Bool, true, false, ◌&&◌, not, int_lt, if◌then◌else◌, arith}
use Rattle.std.proofs.lemmas.Int.{clamps, ints}
use Rattle.st_blocks.specs.Blocks.{is_over, off_delay, on_delay, on_start, preset, shown}
use Rattle.st_blocks.specs.Laws.{IsWithin, TimesStayWithinPreset}
use Rattle.st_blocks.specs.declared.timer.Timer.{Timer}
use Rattle.st_blocks.specs.declared.ton.Ton.{Ton}

pub shown_within : (pt start now : ℤ) → IsWithin pt (shown pt start now)
shown_within pt start now = record { low = omega (arith, ints, clamps); high = omega (arith, ints, clamps) }

none_within : (pt : ℤ) → IsWithin pt (pos 0)
none_within pt = record { low = omega (arith, ints, clamps); high = omega (arith, ints, clamps) }

pub all_within : (pt : ℤ) → IsWithin pt (preset pt)
all_within pt = record { low = omega (arith, ints, clamps); high = omega (arith, ints, clamps) }

on_within : (input : Bool) (t : Ton) (now : ℤ) → IsWithin t.pt (on_delay (record t { input = input }) now).et
on_within true t now = shown_within t.pt (on_start t now) now
on_within false t now = none_within t.pt

off_within : (input memory running : Bool) (t : Timer) (now : ℤ)
    → IsWithin t.pt (off_delay (record t { input = input; memory = memory; running = running }) now).et
off_within true memory running t now = none_within t.pt
off_within false true running t now = shown_within t.pt now now
off_within false false true t now = shown_within t.pt t.start now
off_within false false false t now = none_within t.pt

-- whether the pulse runs, whether there is an edge, and whether the output stays at its end
abbrev pub pulse_by : Bool → Timer → ℤ → Timer
pulse_by over t now =
    if t.running && not over then record t { q = true; et = shown t.pt t.start now; memory = t.input }
    else (if t.input && not t.memory then
    record t { q = int_lt (pos 0) (preset t.pt); et = pos 0; memory = true; running = true; start = now }
    else (if t.running && t.input then record t { q = false; et = preset t.pt; memory = true }
    else record t { q = false; et = pos 0; memory = t.input; running = false; start = pos 0 }))

pulse_within : (over running input memory : Bool) (t : Timer) (now : ℤ)
    → IsWithin t.pt (pulse_by over (record t { input = input; memory = memory; running = running }) now).et
pulse_within false true input memory t now = shown_within t.pt t.start now
pulse_within true true true false t now = none_within t.pt
pulse_within true true true true t now = all_within t.pt
pulse_within true true false memory t now = none_within t.pt
pulse_within over false true false t now = none_within t.pt
pulse_within over false true true t now = none_within t.pt
pulse_within over false false memory t now = none_within t.pt

pub times_are_within : TimesStayWithinPreset
times_are_within ton timer now = record {
  on = on_within ton.input ton now;
  off = off_within timer.input timer.memory timer.running timer now;
  pulse = pulse_within (is_over timer.pt timer.start now) timer.running timer.input timer.memory timer now;
}
