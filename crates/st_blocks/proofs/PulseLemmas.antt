-- A pulse of TP: nothing moves its start while it runs, and then it ends.
use Rattle.std.proofs.Common.{◌≡◌, ℤ, pos, Bool, true, false, ◌&&◌, not, IsTrue, IsFalse, List, [], ◌∷◌, int_lt, refl, sym, ap, ◌∙◌, arith}
use Rattle.std.proofs.lemmas.Int.{clamps, ints}
use Rattle.std.proofs.lemmas.List.Elements.{All-head, All-tail}
use Rattle.std.specs.List.{All}
use Rattle.st_blocks.specs.Blocks.{is_over, preset, pulse, shown}
use Rattle.st_blocks.specs.Laws.{Call, IsBegun, ComesBefore, PulsesAreKept, PulsesEnd, tp_after}
use Rattle.st_blocks.specs.declared.timer.Timer.{Timer}
use Rattle.st_blocks.proofs.TimeLemmas.{pulse_by}

-- what TP does while it runs
record Runs (t : Timer) (now : ℤ) (to : Timer) : Type 0 where
  q : IsTrue to.q
  et : to.et ≡ shown t.pt t.start now
  running : IsTrue to.running
  start : to.start ≡ t.start

runs_by : (over running : Bool) (t : Timer) (now : ℤ) → IsTrue running → IsFalse over → Runs t now (pulse_by over (record t { running = running }) now)
runs_by false true t now r o = record { q = refl; et = refl; running = refl; start = refl }
runs_by true running t now r o = cc
runs_by false false t now r o = cc

runs : (t : Timer) (now : ℤ) → IsTrue t.running → IsFalse (is_over t.pt t.start now) → Runs t now (pulse t now)
runs t now r o = runs_by (is_over t.pt t.start now) t.running t now r o

-- with inputs and at a moment of a call
abbrev called : Call → Timer → Timer
called c t = record t { input = c.input; pt = c.pt }

record Keeps (t to : Timer) : Type 0 where
  running : IsTrue to.running
  start : to.start ≡ t.start

still_before : (c : Call) (start other : ℤ) → other ≡ start → ComesBefore start c → IsFalse (is_over c.pt other c.moment)
still_before c start other same h = ap (λ s. is_over c.pt s c.moment) same ∙ h

kept : (t : Timer) (calls : List Call) → IsTrue t.running → All (ComesBefore t.start) calls → Keeps t (tp_after t calls)
kept t [] r h = record { running = r; start = refl }
kept t (c ∷ cs) r h =
    let before : Keeps t (tp_after t cs) = kept t cs r (All-tail (ComesBefore t.start) c cs h) in
    let now : Runs (called c (tp_after t cs)) c.moment (tp_after t (c ∷ cs))
    = runs (called c (tp_after t cs)) c.moment before.running (still_before c t.start (tp_after t cs).start before.start (All-head (ComesBefore t.start) c cs h)) in
    record { running = now.running; start = now.start ∙ before.start }

pub pulses_are_kept : PulsesAreKept
pulses_are_kept t last earlier r h =
    let before : Keeps t (tp_after t earlier) = kept t earlier r (All-tail (ComesBefore t.start) last earlier h) in
    let now : Runs (called last (tp_after t earlier)) last.moment (tp_after t (last ∷ earlier))
    = runs (called last (tp_after t earlier)) last.moment before.running
    (still_before last t.start (tp_after t earlier).start before.start (All-head (ComesBefore t.start) last earlier h)) in
    record { q = now.q; et = now.et ∙ ap (λ s. shown last.pt s last.moment) before.start; start = now.start ∙ before.start }

-- no time is over at its start, where there is any
begins_below : (pt now : ℤ) → IsTrue (int_lt (pos 0) (preset pt)) → IsFalse (is_over pt now now)
begins_below pt now h = grind (arith, ints, clamps)

ends_running : (over running input memory : Bool) (t : Timer) (now : ℤ) → over ≡ is_over t.pt t.start now
    → let to = pulse_by over (record t { running = running; input = input; memory = memory }) now in
    IsTrue to.q → IsFalse (is_over t.pt to.start now)
ends_running false true input memory t now o h = sym o
ends_running true true true false t now o h = begins_below t.pt now h
ends_running true true true true t now o h = cc
ends_running true true false memory t now o h = cc
ends_running over false true false t now o h = begins_below t.pt now h
ends_running over false true true t now o h = cc
ends_running over false false memory t now o h = cc

-- no pulse runs, and there is an edge
begun_by : (over running input memory : Bool) (t : Timer) (now : ℤ) → IsFalse (running && not over) → IsTrue (input && not memory)
    → pulse_by over (record t { running = running; input = input; memory = memory }) now
    ≡ record t { input = input; q = int_lt (pos 0) (preset t.pt); et = pos 0; memory = true; running = true; start = now }
begun_by over false true false t now r h = refl
begun_by true true true false t now r h = refl
begun_by false true true false t now r h = cc
begun_by over running true true t now r h = cc
begun_by over running false memory t now r h = cc

begun : (t : Timer) (now : ℤ) → IsFalse (t.running && not (is_over t.pt t.start now)) → IsTrue (t.input && not t.memory) → IsBegun t now
begun t now r h =
    let e = begun_by (is_over t.pt t.start now) t.running t.input t.memory t now r h in
    record { q = ap (λ (u : Timer). u.q) e; et = ap (λ (u : Timer). u.et) e; running = ap (λ (u : Timer). u.running) e; start = ap (λ (u : Timer). u.start) e }

none_by : (over running input memory : Bool) (t : Timer) (now : ℤ) → IsFalse (running && not over) → IsFalse (input && not memory)
    → IsFalse (pulse_by over (record t { running = running; input = input; memory = memory }) now).q
none_by true true true true t now r h = refl
none_by true true false memory t now r h = refl
none_by over false true true t now r h = refl
none_by over false false memory t now r h = refl
none_by over running true false t now r h = cc
none_by false true true true t now r h = cc
none_by false true false memory t now r h = cc

memory_by : (over running input memory : Bool) (t : Timer) (now : ℤ)
    → (pulse_by over (record t { running = running; input = input; memory = memory }) now).memory ≡ input
memory_by false true input memory t now = refl
memory_by true true true true t now = refl
memory_by true true true false t now = refl
memory_by true true false memory t now = refl
memory_by over false true false t now = refl
memory_by over false true true t now = refl
memory_by over false false memory t now = refl

pub pulses_end : PulsesEnd
pulses_end t now = record {
  begins = begun t now;
  none = none_by (is_over t.pt t.start now) t.running t.input t.memory t now;
  runs = ends_running (is_over t.pt t.start now) t.running t.input t.memory t now refl;
  memory = memory_by (is_over t.pt t.start now) t.running t.input t.memory t now;
}
