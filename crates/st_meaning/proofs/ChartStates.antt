-- What a chart keeps of itself is of the types of its leaves, at whichever moment it is invoked (2.6).
use Rattle.std.proofs.Common.{ℕ, zero, suc, ℤ, pos, negsuc, Bool, true, false, List, [], ◌∷◌, ◌++◌, drop, get_or, length, map, if◌then◌else◌, IsTrue, refl, sym, subst, arith, append_assoc, w64, FitsSigned}
use Rattle.std.specs.Int.{int_wrapping_sub}
use Rattle.std.specs.List.{AllZip, range_with_len}
use Rattle.std.proofs.lemmas.Int.{SFits-int_wrap, wrapping_sub_is, fits_signed_from_abs}
use Rattle.st_values.specs.Types.{limit_of}
use Rattle.st_values.specs.Values.{in_range, IsOfType}
use Rattle.st_values.specs.declared.elem.Elem.{Elem}
use Rattle.st_values.specs.declared.elem.Elem.TheVariants as elems
use Rattle.st_values.specs.declared.value.Value.{Value}
use Rattle.st_values.proofs.Cases.{below, is_below}
use Rattle.st_blocks.proofs.TypeLemmas.{truth_typed}
use Rattle.st_charts.specs.Charts.{is_entered, is_left, moved, no_step, remembered, step_between, step_in, timed}
use Rattle.st_charts.specs.Passages.{Passage, Set}
use Rattle.st_charts.specs.declared.step.StepCell.{StepCell}
use Rattle.st_meaning.specs.Charts.{ChartState, cell_in, cells_in, flags_values, moved_on, outcome_of, state_in, state_values, step_values, steps_values, times_set}
use Rattle.st_meaning.specs.Meaning.{Values}
use Rattle.st_leaves.specs.Charts.{step_types}
use Rattle.st_meaning.specs.Sketches.{Sketch, chart_types, flags_types, steps_types}

-- ---- values of types

pub typed_append : (ts us : List Elem) (vs ws : Values) → AllZip IsOfType ts vs → AllZip IsOfType us ws → AllZip IsOfType (ts ++ us) (vs ++ ws)
typed_append [] us [] ws h k = k
typed_append [] us (v ∷ vs) ws h k = absurd h
typed_append (t ∷ ts) us [] ws h k = absurd h
typed_append (t ∷ ts) us (v ∷ vs) ws h k = (h.0, typed_append ts us vs ws h.1 k)

-- ---- times

abbrev IsTime : ℤ → Type 0
IsTime t = IsTrue (in_range elems.Time t)

-- both times of a step are in the range of TIME
pub record HasTimes (c : StepCell) : Type 0 where
  pub elapsed : IsTime c.elapsed
  pub since : IsTime c.since

abbrev pub AllTimes : List StepCell → Type 0
AllTimes [] = Unit {0}
AllTimes (c ∷ cells) = HasTimes c × AllTimes cells

none_times : HasTimes no_step
none_times = record { elapsed = refl; since = refl }

-- ---- to values

step_typed : (p : Bool) (c : StepCell) → HasTimes c → AllZip IsOfType (step_types p) (step_values p c)
step_typed true c h = (truth_typed c.active, ((refl, h.elapsed), ((refl, h.since), (truth_typed c.pulsed, tt))))
step_typed false c h = (truth_typed c.active, ((refl, h.elapsed), ((refl, h.since), tt)))

steps_typed : (pulses : List Bool) (cells : List StepCell) → AllTimes cells → AllZip IsOfType (steps_types pulses) (steps_values pulses cells)
steps_typed [] cells h = tt
steps_typed (p ∷ pulses) [] h = typed_append (step_types p) (steps_types pulses) (step_values p no_step) (steps_values pulses []) (step_typed p no_step none_times) (steps_typed pulses [] tt)
steps_typed (p ∷ pulses) (c ∷ cells) h =
    typed_append (step_types p) (steps_types pulses) (step_values p c) (steps_values pulses cells) (step_typed p c h.0) (steps_typed pulses cells h.1)

flags_typed : (stored : List ℕ) (flags : List Bool) → AllZip IsOfType (flags_types stored) (flags_values stored flags)
flags_typed [] flags = tt
flags_typed (n ∷ stored) flags = (truth_typed (get_or flags n false), flags_typed stored flags)

state_typed : (sketch : Sketch) (s : ChartState) → AllTimes s.steps → AllZip IsOfType (chart_types sketch) (state_values sketch s)
state_typed sketch s h = (
  truth_typed s.begun,
  typed_append (steps_types sketch.pulses) (flags_types sketch.stored) (steps_values sketch.pulses s.steps) (flags_values sketch.stored s.flags)
      (steps_typed sketch.pulses s.steps h) (flags_typed sketch.stored s.flags),
)

-- ---- from values

number_time : (v : Value) → IsOfType elems.Time v → IsTime v.bits
number_time v h = subst (λ e. IsTrue (in_range e v.bits)) h.0 h.1

record FirstStep (p : Bool) (ts : List Elem) (cells : Values) : Type 0 where
  times : HasTimes (cell_in p cells)
  rest : AllZip IsOfType ts (drop (length (step_types p)) cells)

first_step : (p : Bool) (ts : List Elem) (cells : Values) → AllZip IsOfType (step_types p ++ ts) cells → FirstStep p ts cells
first_step true ts [] h = absurd h
first_step true ts (a ∷ []) h = absurd h.1
first_step true ts (a ∷ b ∷ []) h = absurd h.1.1
first_step true ts (a ∷ b ∷ c ∷ []) h = absurd h.1.1.1
first_step true ts (a ∷ b ∷ c ∷ d ∷ cells) h = record { times = record { elapsed = number_time b h.1.0; since = number_time c h.1.1.0 }; rest = h.1.1.1.1 }
first_step false ts [] h = absurd h
first_step false ts (a ∷ []) h = absurd h.1
first_step false ts (a ∷ b ∷ []) h = absurd h.1.1
first_step false ts (a ∷ b ∷ c ∷ cells) h = record { times = record { elapsed = number_time b h.1.0; since = number_time c h.1.1.0 }; rest = h.1.1.1 }

steps_times : (pulses : List Bool) (us : List Elem) (cells : Values) → AllZip IsOfType (steps_types pulses ++ us) cells → AllTimes (cells_in pulses cells)
steps_times [] us cells h = tt
steps_times (p ∷ pulses) us cells h =
    let one = first_step p (steps_types pulses ++ us) cells (subst (λ (ts : List Elem). AllZip IsOfType ts cells) (append_assoc (step_types p) (steps_types pulses) us) h) in
    (one.times, steps_times pulses us (drop (length (step_types p)) cells) one.rest)

state_times : (sketch : Sketch) (cells : Values) → AllZip IsOfType (chart_types sketch) cells → AllTimes (state_in sketch cells).steps
state_times sketch [] h = absurd h
state_times sketch (v ∷ cells) h = steps_times sketch.pulses (flags_types sketch.stored) cells h.1

-- ---- one invocation

fits_time : (t : ℤ) → FitsSigned w64 t → IsTime t
fits_time (pos n) fits = is_below n (limit_of elems.Time) (omega (arith, fits.sfits))
fits_time (negsuc n) fits = is_below n (limit_of elems.Time) (omega (arith, fits.sfits))

time_fits : (t : ℤ) → IsTime t → FitsSigned w64 t
time_fits (pos n) h = let less = below n (limit_of elems.Time) h in fits_signed_from_abs w64 (pos n) (omega (arith, less))
time_fits (negsuc n) h = let less = below n (limit_of elems.Time) h in record { sfits = omega (arith, less) }

difference_time : (a b : ℤ) → IsTime a → IsTime b → IsTime (int_wrapping_sub w64 a b)
difference_time a b h k =
    subst IsTime (sym (wrapping_sub_is w64 a b (time_fits a h) (time_fits b k))) (fits_time _ (SFits-int_wrap w64 _))

module _ (now : ℤ) (moment : IsTime now) where
  timed_times : (begun : Bool) (c : StepCell) → HasTimes c → HasTimes (timed begun now c)
  timed_times begun c h = by c.active begun where
    by : (a b : Bool) → HasTimes (if a then (if b then record c { elapsed = int_wrapping_sub w64 now c.since } else record c { elapsed = pos 0; since = now }) else c)
    by true true = record { elapsed = difference_time now c.since moment h.since; since = h.since }
    by true false = record { elapsed = refl; since = moment }
    by false b = h

  all_timed : (begun : Bool) (cells : List StepCell) → AllTimes cells → AllTimes (map (timed begun now) cells)
  all_timed begun [] h = tt
  all_timed begun (c ∷ cells) h = (timed_times begun c h.0, all_timed begun cells h.1)

  moved_times : (left entered : Bool) (c : StepCell) → HasTimes c → HasTimes (moved left entered now c)
  moved_times left true c h = record { elapsed = refl; since = moment }
  moved_times left false c h = record { elapsed = h.elapsed; since = h.since }

  step_times : (cells : List StepCell) → AllTimes cells → (s : ℕ) → HasTimes (step_in cells s)
  step_times [] h s = none_times
  step_times (c ∷ cells) h zero = h.0
  step_times (c ∷ cells) h (suc s) = step_times cells h.1 s

  between_times : (ts : List Passage) (cleared : Set) (begun : Bool) (cells : List StepCell) → AllTimes cells → (s : ℕ)
      → HasTimes (remembered (step_between ts cleared begun now (step_in cells) s))
  between_times ts cleared begun cells h s =
      let is = moved_times (is_left ts cleared s) (is_entered ts cleared s) (timed begun now (step_in cells s)) (timed_times begun (step_in cells s) (step_times cells h s)) in
      record { elapsed = is.elapsed; since = is.since }

  mapped_times : (f : ℕ → StepCell) (ns : List ℕ) → ((n : ℕ) → HasTimes (f n)) → AllTimes (map f ns)
  mapped_times f [] h = tt
  mapped_times f (n ∷ ns) h = (h n, mapped_times f ns h)

  pub times_typed : (sketch : Sketch) (cells : Values) → AllZip IsOfType (chart_types sketch) cells → AllZip IsOfType (chart_types sketch) (times_set sketch now cells)
  times_typed sketch cells h =
      let s = state_in sketch cells in
      state_typed sketch (record { begun = s.begun; steps = map (timed s.begun now) s.steps; flags = s.flags }) (all_timed s.begun s.steps (state_times sketch cells h))

  pub moved_typed : (sketch : Sketch) (conditions : List Bool) (cells : Values) → AllZip IsOfType (chart_types sketch) cells
      → AllZip IsOfType (chart_types sketch) (moved_on sketch conditions now cells)
  moved_typed sketch conditions cells h =
      let s = state_in sketch cells in
      let o = outcome_of sketch conditions now cells in
      state_typed sketch (record { begun = true; steps = o.steps; flags = o.flags })
      (mapped_times _ (range_with_len 0 (length s.steps)) (λ n. between_times sketch.passages _ s.begun s.steps (state_times sketch cells h) n))
