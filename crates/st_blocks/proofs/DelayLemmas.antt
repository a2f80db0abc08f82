-- TON and TOF behind calls: what they keep tells since when the input has been what it is.
use Rattle.std.proofs.Common.{◌≡◌, ℤ, pos, Bool, true, false, ◌&&◌, ◌||◌, not, IsTrue, IsFalse, List, [], ◌∷◌, if◌then◌else◌, refl, ap, ◌∙◌}
use Rattle.st_blocks.specs.Blocks.{is_over, off_delay, off_start, on_delay, on_start, shown}
use Rattle.st_blocks.specs.Laws.{Call, OffIsDelayed, OnIsDelayed, false_since, tof_after, ton_after, true_since, was_true}
use Rattle.st_blocks.specs.declared.timer.Timer.{Timer}
use Rattle.st_blocks.specs.declared.ton.Ton.{Ton}

-- two choices by the same test, of which the first is asked for only where it is TRUE
same_choice : (test other : Bool) (start since now : ℤ) → test ≡ other → (IsTrue other → start ≡ since)
    → (if test then start else now) ≡ (if other then since else now)
same_choice true true start since now same is = is refl
same_choice false false start since now same is = refl
same_choice true false start since now same is = cc
same_choice false true start since now same is = cc

-- ---- TON

on_running : (input : Bool) (t : Ton) (now : ℤ) → (on_delay (record t { input = input }) now).running ≡ input
on_running true t now = refl
on_running false t now = refl

on_started : (input : Bool) (t : Ton) (now : ℤ) → IsTrue input → (on_delay (record t { input = input }) now).start ≡ on_start t now
on_started true t now h = refl
on_started false t now h = cc

on_output : (input : Bool) (t : Ton) (now : ℤ) → (on_delay (record t { input = input }) now).q ≡ (input && is_over t.pt (on_start t now) now)
on_output true t now = refl
on_output false t now = refl

on_time : (input : Bool) (t : Ton) (now : ℤ)
    → (on_delay (record t { input = input }) now).et ≡ (if input then shown t.pt (on_start t now) now else pos 0)
on_time true t now = refl
on_time false t now = refl

-- the block that is called: what the earlier calls left, with this PT
abbrev called_on : Call → List Call → Ton
called_on c cs = record (ton_after cs) { pt = c.pt }

on_since : (last : Call) (earlier : List Call) → on_start (ton_after earlier) last.moment ≡ true_since last earlier
on_since last [] = refl
on_since last (c ∷ cs) =
    same_choice (ton_after (c ∷ cs)).running c.input (ton_after (c ∷ cs)).start (true_since c cs) last.moment
    (on_running c.input (called_on c cs) c.moment)
    (λ h. on_started c.input (called_on c cs) c.moment h ∙ on_since c cs)

pub on_is_delayed : OnIsDelayed
on_is_delayed last earlier = record {
  q = on_output last.input (called_on last earlier) last.moment
      ∙ ap (λ s. last.input && is_over last.pt s last.moment) (on_since last earlier);
  et = on_time last.input (called_on last earlier) last.moment
      ∙ ap (λ s. if last.input then shown last.pt s last.moment else pos 0) (on_since last earlier);
}

-- ---- TOF

off_memory : (input memory running : Bool) (t : Timer) (now : ℤ) → (off_delay (record t { input = input; memory = memory; running = running }) now).memory ≡ input
off_memory true memory running t now = refl
off_memory false true running t now = refl
off_memory false false true t now = refl
off_memory false false false t now = refl

-- whether it has been TRUE, as far as the block knows
abbrev known : Timer → Bool
known t = t.memory || t.running

off_known : (input memory running : Bool) (t : Timer) (now : ℤ)
    → known (off_delay (record t { input = input; memory = memory; running = running }) now) ≡ (input || (memory || running))
off_known true memory running t now = refl
off_known false true running t now = refl
off_known false false true t now = refl
off_known false false false t now = refl

off_started : (input memory running : Bool) (t : Timer) (now : ℤ) → IsFalse input → IsTrue (memory || running)
    → (off_delay (record t { input = input; memory = memory; running = running }) now).start ≡ (if memory then now else t.start)
off_started false true running t now i k = refl
off_started false false true t now i k = refl
off_started false false false t now i k = cc
off_started true memory running t now i k = cc

off_output : (input memory running : Bool) (t : Timer) (now : ℤ)
    → (off_delay (record t { input = input; memory = memory; running = running }) now).q
    ≡ (input || ((memory || running) && not (is_over t.pt (if memory then now else t.start) now)))
off_output true memory running t now = refl
off_output false true running t now = refl
off_output false false true t now = refl
off_output false false false t now = refl

off_time : (input memory running : Bool) (t : Timer) (now : ℤ)
    → (off_delay (record t { input = input; memory = memory; running = running }) now).et
    ≡ (if not input && (memory || running) then shown t.pt (if memory then now else t.start) now else pos 0)
off_time true memory running t now = refl
off_time false true running t now = refl
off_time false false true t now = refl
off_time false false false t now = refl

abbrev called_off : Call → List Call → Timer
called_off c cs = record (tof_after cs) { pt = c.pt }

-- It knows whether the input was TRUE,
was_known : (calls : List Call) → known (tof_after calls) ≡ was_true calls
was_known [] = refl
was_known (c ∷ cs) =
    off_known c.input (tof_after cs).memory (tof_after cs).running (called_off c cs) c.moment ∙ ap (λ k. c.input || k) (was_known cs)

by_input : (memory input : Bool) (start since now : ℤ) → memory ≡ input → (IsFalse input → start ≡ since)
    → (if memory then now else start) ≡ (if input then now else since)
by_input true true start since now same is = refl
by_input false false start since now same is = is refl
by_input true false start since now same is = cc
by_input false true start since now same is = cc

or_else : (input was : Bool) → IsTrue (input || was) → IsFalse input → IsTrue was
or_else false was h i = h
or_else true was h i = cc

-- and where it was, since when it has been FALSE.
off_since : (last : Call) (earlier : List Call) → IsTrue (was_true earlier) → off_start (tof_after earlier) last.moment ≡ false_since last earlier
off_since last [] h = cc
off_since last (c ∷ cs) h =
    by_input (tof_after (c ∷ cs)).memory c.input (tof_after (c ∷ cs)).start (false_since c cs) last.moment
    (off_memory c.input (tof_after cs).memory (tof_after cs).running (called_off c cs) c.moment)
    (λ i.
    let was : IsTrue (was_true cs) = or_else c.input (was_true cs) h i in
    off_started c.input (tof_after cs).memory (tof_after cs).running (called_off c cs) c.moment i (was_known cs ∙ was) ∙ off_since c cs was)

-- a test of a start that counts only where the input was TRUE
only_known : (input was : Bool) (f : ℤ → Bool) (start since : ℤ) → (IsTrue was → start ≡ since)
    → (input || (was && f start)) ≡ (input || (was && f since))
only_known input true f start since is = ap (λ s. input || f s) (is refl)
only_known input false f start since is = refl

only_shown : (input was : Bool) (f : ℤ → ℤ) (start since : ℤ) → (IsTrue was → start ≡ since)
    → (if not input && was then f start else pos 0) ≡ (if not input && was then f since else pos 0)
only_shown true was f start since is = refl
only_shown false true f start since is = ap f (is refl)
only_shown false false f start since is = refl

pub off_is_delayed : OffIsDelayed
off_is_delayed last earlier =
    let t : Timer = tof_after earlier in
    record {
      q = off_output last.input t.memory t.running (called_off last earlier) last.moment
          ∙ ap (λ k. last.input || (k && not (is_over last.pt (off_start t last.moment) last.moment))) (was_known earlier)
          ∙ only_known last.input (was_true earlier) (λ s. not (is_over last.pt s last.moment)) (off_start t last.moment) (false_since last earlier)
          (off_since last earlier);
      et = off_time last.input t.memory t.running (called_off last earlier) last.moment
          ∙ ap (λ k. if not last.input && k then shown last.pt (off_start t last.moment) last.moment else pos 0) (was_known earlier)
          ∙ only_shown last.input (was_true earlier) (λ s. shown last.pt s last.moment) (off_start t last.moment) (false_since last earlier)
          (off_since last earlier);
    }
