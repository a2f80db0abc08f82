-- Calls worked out by hand from the tables and the timing diagrams (2.5.2.3, tables 34 to 37 and figure 15).
use Rattle.std.proofs.Common.{◌≡◌, ℤ, pos, negsuc, Bool, true, false, List, [], ◌∷◌, map, refl}
use Rattle.st_values.specs.declared.value.Value.{Value}
use Rattle.st_values.specs.declared.elem.Elem.TheVariants as elems
use Rattle.st_types.specs.declared.standard.StandardBlock.{StandardBlock}
use Rattle.st_types.specs.declared.standard.StandardBlock.TheVariants as blocks
use Rattle.st_values.specs.Values.{truth}
use Rattle.st_types.specs.Initials.{zero_of}
use Rattle.st_blocks.specs.Cells.{of_type, types_of}
use Rattle.st_blocks.specs.Laws.{Call, new_timer, tof_after, ton_after, tp_after}
use Rattle.st_blocks.specs.Steps.{stepped}

-- the leaves of a block before its first call
abbrev fresh : StandardBlock → List Value
fresh kind = map zero_of (types_of kind)

abbrev flags : List Bool → List Value
flags bs = map truth bs

-- ---- edges: CLK, Q, $M

-- F_TRIG finds an edge at its first call where CLK is FALSE, and none at the second.
falling_edge : stepped blocks.FTrig (fresh blocks.FTrig) (pos 0) ≡ flags (false ∷ true ∷ true ∷ [])
falling_edge = refl

falling_edge_once : stepped blocks.FTrig (flags (false ∷ true ∷ true ∷ [])) (pos 1) ≡ flags (false ∷ false ∷ true ∷ [])
falling_edge_once = refl

-- R_TRIG finds none at its first call where CLK is FALSE, and one where it is TRUE.
no_rising_edge : stepped blocks.RTrig (fresh blocks.RTrig) (pos 0) ≡ flags (false ∷ false ∷ false ∷ [])
no_rising_edge = refl

rising_edge : stepped blocks.RTrig (flags (true ∷ false ∷ false ∷ [])) (pos 0) ≡ flags (true ∷ true ∷ true ∷ [])
rising_edge = refl

rising_edge_once : stepped blocks.RTrig (flags (true ∷ true ∷ true ∷ [])) (pos 1) ≡ flags (true ∷ false ∷ true ∷ [])
rising_edge_once = refl

-- ---- SR: S1, R, Q1; RS: S, R1, Q1

both_at_sr : stepped blocks.Sr (flags (true ∷ true ∷ false ∷ [])) (pos 0) ≡ flags (true ∷ true ∷ true ∷ [])
both_at_sr = refl

both_at_rs : stepped blocks.Rs (flags (true ∷ true ∷ true ∷ [])) (pos 0) ≡ flags (true ∷ true ∷ false ∷ [])
both_at_rs = refl

neither_at_sr : stepped blocks.Sr (flags (false ∷ false ∷ true ∷ [])) (pos 0) ≡ flags (false ∷ false ∷ true ∷ [])
neither_at_sr = refl

-- ---- counters: CU, R, PV, Q, CV, $M

abbrev counter : Bool → Bool → ℤ → Bool → ℤ → Bool → List Value
counter pulse restart pv q cv memory = truth pulse ∷ truth restart ∷ of_type elems.Int pv ∷ truth q ∷ of_type elems.Int cv ∷ truth memory ∷ []

counts_to_preset : stepped blocks.Ctu (counter true false (pos 3) false (pos 2) false) (pos 0) ≡ counter true false (pos 3) true (pos 3) true
counts_to_preset = refl

counts_no_further_without_edge : stepped blocks.Ctu (counter true false (pos 3) true (pos 3) true) (pos 0) ≡ counter true false (pos 3) true (pos 3) true
counts_no_further_without_edge = refl

stays_at_greatest : stepped blocks.Ctu (counter true false (pos 3) true (pos 32767) false) (pos 0) ≡ counter true false (pos 3) true (pos 32767) true
stays_at_greatest = refl

is_reset_at_an_edge : stepped blocks.Ctu (counter true true (pos 3) true (pos 7) false) (pos 0) ≡ counter true true (pos 3) false (pos 0) true
is_reset_at_an_edge = refl

is_loaded : stepped blocks.Ctd (counter true true (pos 3) true (pos 0) false) (pos 0) ≡ counter true true (pos 3) false (pos 3) true
is_loaded = refl

counts_to_nothing : stepped blocks.Ctd (counter true false (pos 3) false (pos 1) false) (pos 0) ≡ counter true false (pos 3) true (pos 0) true
counts_to_nothing = refl

stays_at_least : stepped blocks.Ctd (counter true false (pos 3) true (negsuc 32767) false) (pos 0) ≡ counter true false (pos 3) true (negsuc 32767) true
stays_at_least = refl

-- ---- timers with a PT of 100 ms: Q and ET behind calls, the last of which stands first

abbrev at : ℤ → Bool → Call
at moment input = record { input = input; pt = pos 100; moment = moment }

abbrev ton : List Call → Bool × ℤ
ton calls = ((ton_after calls).q, (ton_after calls).et)

abbrev tof : List Call → Bool × ℤ
tof calls = ((tof_after calls).q, (tof_after calls).et)

abbrev tp : List Call → Bool × ℤ
tp calls = ((tp_after new_timer calls).q, (tp_after new_timer calls).et)

-- TON: an input that lasts, and one that is too short
abbrev long_input : List Call
long_input = at (pos 160) false ∷ at (pos 150) true ∷ at (pos 100) true ∷ at (pos 99) true ∷ at (pos 0) true ∷ []

ton_begins : ton (at (pos 0) true ∷ []) ≡ (false, pos 0)
ton_begins = refl

ton_runs : ton (at (pos 99) true ∷ at (pos 0) true ∷ []) ≡ (false, pos 99)
ton_runs = refl

ton_is_over : ton (at (pos 100) true ∷ at (pos 99) true ∷ at (pos 0) true ∷ []) ≡ (true, pos 100)
ton_is_over = refl

ton_stays : ton (at (pos 150) true ∷ at (pos 100) true ∷ at (pos 99) true ∷ at (pos 0) true ∷ []) ≡ (true, pos 100)
ton_stays = refl

ton_ends : ton long_input ≡ (false, pos 0)
ton_ends = refl

ton_runs_again : ton (at (pos 250) true ∷ at (pos 200) true ∷ long_input) ≡ (false, pos 50)
ton_runs_again = refl

ton_stops : ton (at (pos 260) false ∷ at (pos 250) true ∷ at (pos 200) true ∷ long_input) ≡ (false, pos 0)
ton_stops = refl

-- TOF: an input that stays away, and one that comes back
abbrev gone : List Call
gone = at (pos 110) false ∷ at (pos 60) false ∷ at (pos 10) false ∷ at (pos 0) true ∷ []

tof_never_on : tof (at (pos 0) false ∷ []) ≡ (false, pos 0)
tof_never_on = refl

tof_on : tof (at (pos 0) true ∷ []) ≡ (true, pos 0)
tof_on = refl

tof_begins : tof (at (pos 10) false ∷ at (pos 0) true ∷ []) ≡ (true, pos 0)
tof_begins = refl

tof_runs : tof (at (pos 60) false ∷ at (pos 10) false ∷ at (pos 0) true ∷ []) ≡ (true, pos 50)
tof_runs = refl

tof_is_over : tof gone ≡ (false, pos 100)
tof_is_over = refl

tof_stays : tof (at (pos 150) false ∷ gone) ≡ (false, pos 100)
tof_stays = refl

tof_on_again : tof (at (pos 160) true ∷ at (pos 150) false ∷ gone) ≡ (true, pos 0)
tof_on_again = refl

tof_begins_again : tof (at (pos 180) false ∷ at (pos 170) false ∷ at (pos 160) true ∷ at (pos 150) false ∷ gone) ≡ (true, pos 10)
tof_begins_again = refl

-- TP: the input goes and comes while the pulse runs, and stays past its end.
abbrev first_pulse : List Call
first_pulse = at (pos 120) true ∷ at (pos 60) true ∷ at (pos 50) false ∷ at (pos 0) true ∷ []

tp_begins : tp (at (pos 0) true ∷ []) ≡ (true, pos 0)
tp_begins = refl

tp_runs_without_input : tp (at (pos 50) false ∷ at (pos 0) true ∷ []) ≡ (true, pos 50)
tp_runs_without_input = refl

tp_is_not_started_anew : tp (at (pos 60) true ∷ at (pos 50) false ∷ at (pos 0) true ∷ []) ≡ (true, pos 60)
tp_is_not_started_anew = refl

tp_is_over : tp first_pulse ≡ (false, pos 100)
tp_is_over = refl

tp_ends : tp (at (pos 130) false ∷ first_pulse) ≡ (false, pos 0)
tp_ends = refl

tp_begins_again : tp (at (pos 140) true ∷ at (pos 130) false ∷ first_pulse) ≡ (true, pos 0)
tp_begins_again = refl

-- ---- the ends of TIME and of the moments, and a PT below zero

abbrev call : ℤ → ℤ → Bool → Call
call pt moment input = record { input = input; pt = pt; moment = moment }

longest_time : ton (call (pos 9223372036854775807) (pos 9223372036854775807) true ∷ call (pos 0) (negsuc 9223372036854775807) true ∷ [])
    ≡ (true, pos 9223372036854775807)
longest_time = refl

moments_turn_back : ton (call (pos 100) (negsuc 9223372036854775807) true ∷ call (pos 100) (pos 9223372036854775807) true ∷ []) ≡ (false, pos 0)
moments_turn_back = refl

negative_preset : ton (call (negsuc 4) (pos 7) true ∷ []) ≡ (true, pos 0)
negative_preset = refl

no_pulse : tp (call (negsuc 4) (pos 7) true ∷ []) ≡ (false, pos 0)
no_pulse = refl
