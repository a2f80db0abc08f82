-- Invocations worked out by hand.
use Rattle.std.proofs.Common.{◌≡◌, ℕ, ℤ, pos, negsuc, Bool, true, false, Option, Some, None, List, [], ◌∷◌, refl}
use Rattle.st_charts.specs.Outcomes.{Outcome, invoked}
use Rattle.st_charts.specs.Passages.{Passage}
use Rattle.st_charts.specs.declared.step.StepCell.{StepCell}
use Rattle.st_charts.specs.declared.table.Link.{Link}
use Rattle.st_charts.specs.declared.table.Qualifier.{Qualifier}
use Rattle.st_charts.specs.declared.table.Qualifier.TheVariants as qualifiers

abbrev from : List ℕ → List ℕ → Option ℕ → Passage
from before after priority = record { before = before; after = after; priority = priority }

abbrev step : Bool → ℤ → ℤ → Bool → StepCell
step active elapsed since pulsed = record { active = active; elapsed = elapsed; since = since; pulsed = pulsed }

-- a step that is active since a moment, for a time
abbrev running : ℤ → ℤ → StepCell
running since elapsed = step true elapsed since true

abbrev idle : StepCell
idle = step false (pos 0) (pos 0) false

abbrev link : ℕ → ℕ → Qualifier → ℤ → Link
link s n qualifier time = record { step = s; name = n; qualifier = qualifier; time = time }

-- ---- a sequence: step 0, transition 0, step 1; step 0 shows name 0 by N and name 1 by P

abbrev sequence : List Passage
sequence = from (0 ∷ []) (1 ∷ []) None ∷ from (1 ∷ []) (2 ∷ []) None ∷ []

abbrev shown : List Link
shown = link 0 0 qualifiers.NonStored (pos 0) ∷ link 0 1 qualifiers.Pulse (pos 0) ∷ []

-- The chart begins: no transition is tested, and the step pulses.
begins : invoked sequence shown false (step true (pos 0) (pos 0) false ∷ idle ∷ idle ∷ []) (false ∷ false ∷ []) (true ∷ true ∷ []) (pos 100)
    ≡ record { cleared = false ∷ false ∷ []; steps = running (pos 100) (pos 0) ∷ idle ∷ idle ∷ []; flags = false ∷ false ∷ []; on = true ∷ true ∷ [] }
begins = refl

-- The step goes on.
goes_on : invoked sequence shown true (running (pos 100) (pos 0) ∷ idle ∷ idle ∷ []) (false ∷ false ∷ []) (false ∷ true ∷ []) (pos 150)
    ≡ record { cleared = false ∷ false ∷ []; steps = running (pos 100) (pos 50) ∷ idle ∷ idle ∷ []; flags = false ∷ false ∷ []; on = true ∷ false ∷ [] }
goes_on = refl

-- The transition is cleared. The next one isn't, although its condition is TRUE: its step wasn't active at entry.
moves_on : invoked sequence shown true (running (pos 100) (pos 50) ∷ idle ∷ idle ∷ []) (false ∷ false ∷ []) (true ∷ true ∷ []) (pos 200)
    ≡ record {
      cleared = true ∷ false ∷ [];
      steps = step false (pos 100) (pos 100) false ∷ running (pos 200) (pos 0) ∷ idle ∷ [];
      flags = false ∷ false ∷ [];
      on = false ∷ false ∷ [];
    }
moves_on = refl

-- ---- a selection: step 0, and transitions to steps 1 and 2

abbrev selection : Option ℕ → Option ℕ → List Passage
selection p q = from (0 ∷ []) (1 ∷ []) p ∷ from (0 ∷ []) (2 ∷ []) q ∷ []

abbrev selected : Option ℕ → Option ℕ → Bool → Bool → List Bool
selected p q one other =
    Outcome.cleared (invoked (selection p q) [] true (running (pos 0) (pos 0) ∷ idle ∷ idle ∷ []) [] (one ∷ other ∷ []) (pos 10))

lower_goes_first : selected (Some 2) (Some 1) true true ≡ false ∷ true ∷ []
lower_goes_first = refl

number_goes_first : selected None (Some 7) true true ≡ false ∷ true ∷ []
number_goes_first = refl

text_decides : selected (Some 3) (Some 3) true true ≡ true ∷ false ∷ []
text_decides = refl

text_decides_without_numbers : selected None None true true ≡ true ∷ false ∷ []
text_decides_without_numbers = refl

condition_decides : selected (Some 2) (Some 1) true false ≡ true ∷ false ∷ []
condition_decides = refl

none_is_selected : selected (Some 2) (Some 1) false false ≡ false ∷ false ∷ []
none_is_selected = refl

-- Transition 1 is forestalled by 0, so it doesn't forestall 2.
abbrev chained : List Passage
chained = from (0 ∷ []) [] (Some 1) ∷ from (0 ∷ 1 ∷ []) [] (Some 2) ∷ from (1 ∷ []) [] (Some 3) ∷ []

forestalled_forestalls_none : Outcome.cleared (invoked chained [] true (running (pos 0) (pos 0) ∷ running (pos 0) (pos 0) ∷ []) [] (true ∷ true ∷ true ∷ []) (pos 10))
    ≡ true ∷ false ∷ true ∷ []
forestalled_forestalls_none = refl

-- ---- simultaneous steps: 0 leads to 1 and 2, and both to 3

abbrev simultaneous : List Passage
simultaneous = from (0 ∷ []) (1 ∷ 2 ∷ []) None ∷ from (1 ∷ 2 ∷ []) (3 ∷ []) None ∷ []

diverges : invoked simultaneous [] true (running (pos 0) (pos 0) ∷ idle ∷ idle ∷ idle ∷ []) [] (true ∷ true ∷ []) (pos 10)
    ≡ record {
      cleared = true ∷ false ∷ [];
      steps = step false (pos 10) (pos 0) false ∷ running (pos 10) (pos 0) ∷ running (pos 10) (pos 0) ∷ idle ∷ [];
      flags = [];
      on = [];
    }
diverges = refl

waits_for_both : Outcome.cleared (invoked simultaneous [] true (idle ∷ running (pos 0) (pos 0) ∷ idle ∷ idle ∷ []) [] (true ∷ true ∷ []) (pos 10)) ≡ false ∷ false ∷ []
waits_for_both = refl

converges : invoked simultaneous [] true (idle ∷ running (pos 0) (pos 0) ∷ running (pos 5) (pos 0) ∷ idle ∷ []) [] (true ∷ true ∷ []) (pos 10)
    ≡ record {
      cleared = false ∷ true ∷ [];
      steps = idle ∷ step false (pos 10) (pos 0) false ∷ step false (pos 5) (pos 5) false ∷ running (pos 10) (pos 0) ∷ [];
      flags = [];
      on = [];
    }
converges = refl

-- ---- a transition back to its own step, which pulses anew

abbrev loop : List Passage
loop = from (0 ∷ []) (0 ∷ []) None ∷ []

abbrev pulse : List Link
pulse = link 0 0 qualifiers.Pulse (pos 0) ∷ []

starts_anew : invoked loop pulse true (running (pos 0) (pos 90) ∷ []) (false ∷ []) (true ∷ []) (pos 100)
    ≡ record { cleared = true ∷ []; steps = running (pos 100) (pos 0) ∷ []; flags = false ∷ []; on = true ∷ [] }
starts_anew = refl

pulses_once : invoked loop pulse true (running (pos 100) (pos 0) ∷ []) (false ∷ []) (false ∷ []) (pos 110)
    ≡ record { cleared = false ∷ []; steps = running (pos 100) (pos 10) ∷ []; flags = false ∷ []; on = false ∷ [] }
pulses_once = refl

-- ---- L and D of 100 ms: names 0 and 1 of step 0

abbrev timed_names : ℤ → List Bool
timed_names now =
    Outcome.on
    (invoked loop (link 0 0 qualifiers.Limited (pos 100) ∷ link 0 1 qualifiers.Delayed (pos 100) ∷ []) true (running (pos 0) (pos 0) ∷ []) (false ∷ false ∷ []) (false ∷ []) now)

at_first : timed_names (pos 0) ≡ true ∷ false ∷ []
at_first = refl

shortly_before : timed_names (pos 99) ≡ true ∷ false ∷ []
shortly_before = refl

at_the_time : timed_names (pos 100) ≡ false ∷ true ∷ []
at_the_time = refl

long_after : timed_names (pos 500) ≡ false ∷ true ∷ []
long_after = refl

-- ---- S and R: step 0 stores name 0, and step 1 resets it

abbrev storing : List Link
storing = link 0 0 qualifiers.Stored (pos 0) ∷ link 1 0 qualifiers.Reset (pos 0) ∷ []

abbrev stored : List StepCell → Bool → List Bool × List Bool
stored cells flag =
    let left : Outcome = invoked [] storing true cells (flag ∷ []) [] (pos 10) in (left.flags, left.on)

is_stored : stored (running (pos 0) (pos 0) ∷ idle ∷ []) false ≡ (true ∷ [], true ∷ [])
is_stored = refl

stays_stored : stored (idle ∷ idle ∷ []) true ≡ (true ∷ [], true ∷ [])
stays_stored = refl

is_reset : stored (idle ∷ running (pos 0) (pos 0) ∷ []) true ≡ (false ∷ [], false ∷ [])
is_reset = refl

reset_wins : stored (running (pos 0) (pos 0) ∷ running (pos 0) (pos 0) ∷ []) true ≡ (false ∷ [], false ∷ [])
reset_wins = refl

stays_reset : stored (idle ∷ idle ∷ []) false ≡ (false ∷ [], false ∷ [])
stays_reset = refl

-- R wins over N, wherever it stands.
abbrev both : List Link
both = link 0 0 qualifiers.Reset (pos 0) ∷ link 0 0 qualifiers.NonStored (pos 0) ∷ []

reset_wins_over_shown : Outcome.on (invoked loop both true (running (pos 0) (pos 0) ∷ []) (true ∷ []) (false ∷ []) (pos 10)) ≡ false ∷ []
reset_wins_over_shown = refl

-- ---- the ends of the moments: a time goes round

moments_go_round : Outcome.steps (invoked loop [] true (running (pos 9223372036854775807) (pos 0) ∷ []) [] (false ∷ []) (negsuc 9223372036854775807))
    ≡ running (pos 9223372036854775807) (pos 1) ∷ []
moments_go_round = refl
