-- Laws of the standard function blocks, in the standard's words (2.5.2.3).
use Rattle.std.specs.Prelude.{int_lt, ℕ, map, take, count_by, true, ◌≡◌, ◌↔◌, ℤ, pos, negsuc, ◌+ℤ◌, ◌-ℤ◌, ◌<ℤ◌, ◌≤ℤ◌, Bool, false, ◌&&◌, ◌||◌, not, IsTrue, IsFalse, List, [], ◌∷◌, if◌then◌else◌}
use Rattle.std.specs.List.{All, list_any}
use Rattle.st_values.specs.Values.{in_range}
use Rattle.st_values.specs.declared.elem.Elem.TheVariants as elems
use Rattle.st_values.specs.declared.value.Value.{Value}
use Rattle.st_types.specs.Standard.{pins_of}
use Rattle.st_types.specs.declared.base.Purpose.{Purpose}
use Rattle.st_types.specs.declared.base.Purpose.TheVariants as purposes
use Rattle.st_types.specs.declared.standard.StandardBlock.{StandardBlock}
use Rattle.st_types.specs.declared.standard.StandardBlock.TheVariants as blocks
use Rattle.st_leaves.specs.LeavesIn.{block_leaves}
use Rattle.st_blocks.specs.Blocks.{counted_down, counted_up, fallen, is_edge, is_over, off_delay, on_delay, preset, pulse, reset_dominant, risen, set_dominant, shown}
use Rattle.st_blocks.specs.Cells.{AreLeavesOf, bistable_cells, bistable_in, counter_cells, counter_in, timer_cells, timer_in, ton_cells, ton_in, trigger_cells, trigger_in}
use Rattle.st_blocks.specs.Steps.{stepped}
use Rattle.st_blocks.specs.declared.bistable.Bistable.{Bistable}
use Rattle.st_blocks.specs.declared.counter.Counter.{Counter}
use Rattle.st_blocks.specs.declared.timer.Timer.{Timer}
use Rattle.st_blocks.specs.declared.ton.Ton.{Ton}
use Rattle.st_blocks.specs.declared.trigger.Trigger.{Trigger}

-- ---- edge detectors: Q stays TRUE from one call to the next after an edge (2.5.2.3.2)

-- the block with this input
abbrev pub clocked : Bool → Trigger → Trigger
clocked input t = record t { clk = input }

pub record FindsEdges (t : Trigger) (earlier later : Bool) : Type 0 where
  -- Q of R_TRIG is TRUE where the input is, and wasn't at the call before,
  pub rising : (risen (clocked later (risen (clocked earlier t)))).q ≡ later && not earlier
  -- Q of F_TRIG where the input is FALSE, and wasn't at the call before,
  pub falling : (fallen (clocked later (fallen (clocked earlier t)))).q ≡ not later && earlier
  -- and neither at two calls in a row.
  pub rising_once : IsTrue (risen t).q → IsFalse (risen (clocked later (risen t))).q
  pub falling_once : IsTrue (fallen t).q → IsFalse (fallen (clocked later (fallen t))).q

-- An edge is found at one call: that behind which the input is what it wasn't before.
abbrev pub EdgesAreFound : Type 0
EdgesAreFound = (t : Trigger) (earlier later : Bool) → FindsEdges t earlier later

-- ---- bistable function blocks (2.5.2.3.1)

pub record IsSetDominant (b : Bistable) : Type 0 where
  pub set : IsTrue b.set → IsTrue (set_dominant b).q
  pub reset : IsFalse b.set → IsTrue b.reset → IsFalse (set_dominant b).q
  pub held : IsFalse b.set → IsFalse b.reset → (set_dominant b).q ≡ b.q

pub record IsResetDominant (b : Bistable) : Type 0 where
  pub reset : IsTrue b.reset → IsFalse (reset_dominant b).q
  pub set : IsFalse b.reset → IsTrue b.set → IsTrue (reset_dominant b).q
  pub held : IsFalse b.reset → IsFalse b.set → (reset_dominant b).q ≡ b.q

-- SR is set wherever its set input is TRUE, and holds what it has where neither is.
abbrev pub SetDominates : Type 0
SetDominates = (b : Bistable) → IsSetDominant b

-- RS is reset wherever its reset input is TRUE, and holds what it has where neither is.
abbrev pub ResetDominates : Type 0
ResetDominates = (b : Bistable) → IsResetDominant b

-- ---- counters (2.5.2.3.3)

pub record CountsUp (c : Counter) : Type 0 where
  -- one more at an edge, below the end,
  pub edge : IsFalse c.restart → IsTrue (is_edge c) → c.cv <ℤ pos 32767 → (counted_up c).cv ≡ c.cv +ℤ pos 1
  -- none at the end,
  pub last : IsFalse c.restart → pos 32767 ≤ℤ c.cv → (counted_up c).cv ≡ c.cv
  -- none without an edge,
  pub none : IsFalse c.restart → IsFalse (is_edge c) → (counted_up c).cv ≡ c.cv
  -- so none while the input stays TRUE,
  pub once : IsFalse c.restart → IsTrue c.pulse → (counted_up (counted_up c)).cv ≡ (counted_up c).cv
  -- and an edge is an input that is TRUE behind a call at which it was FALSE;
  pub edges : (later : Bool) → is_edge (record (counted_up c) { pulse = later }) ≡ (later && not c.pulse)
  -- 0 where it is reset;
  pub begun : IsTrue c.restart → (counted_up c).cv ≡ pos 0
  -- and Q says whether PV has been counted.
  pub output : IsTrue (counted_up c).q ↔ c.pv ≤ℤ (counted_up c).cv

pub record CountsDown (c : Counter) : Type 0 where
  -- one less at an edge, above the end,
  pub edge : IsFalse c.restart → IsTrue (is_edge c) → negsuc 32767 <ℤ c.cv → (counted_down c).cv ≡ c.cv -ℤ pos 1
  -- none at the end,
  pub last : IsFalse c.restart → c.cv ≤ℤ negsuc 32767 → (counted_down c).cv ≡ c.cv
  -- none without an edge,
  pub none : IsFalse c.restart → IsFalse (is_edge c) → (counted_down c).cv ≡ c.cv
  -- so none while the input stays TRUE,
  pub once : IsFalse c.restart → IsTrue c.pulse → (counted_down (counted_down c)).cv ≡ (counted_down c).cv
  -- and an edge is an input that is TRUE behind a call at which it was FALSE;
  pub edges : (later : Bool) → is_edge (record (counted_down c) { pulse = later }) ≡ (later && not c.pulse)
  -- PV where it is loaded;
  pub begun : IsTrue c.restart → (counted_down c).cv ≡ c.pv
  -- and Q says whether nothing is left.
  pub output : IsTrue (counted_down c).q ↔ (counted_down c).cv ≤ℤ pos 0

-- Counters move by one at an edge and stay at their ends.
abbrev pub CountersMoveByOne : Type 0
CountersMoveByOne = (c : Counter) → CountsUp c × CountsDown c

-- ---- timers (2.5.2.3.4, figure 15)

-- a time from 0 to PT
pub record IsWithin (pt time : ℤ) : Type 0 where
  pub low : pos 0 ≤ℤ time
  pub high : time ≤ℤ preset pt

pub record TimesAreWithin (ton : Ton) (timer : Timer) (now : ℤ) : Type 0 where
  pub on : IsWithin ton.pt (on_delay ton now).et
  pub off : IsWithin timer.pt (off_delay timer now).et
  pub pulse : IsWithin timer.pt (pulse timer now).et

-- ET never passes PT.
abbrev pub TimesStayWithinPreset : Type 0
TimesStayWithinPreset = (ton : Ton) (timer : Timer) (now : ℤ) → TimesAreWithin ton timer now

-- one call of a timer: its inputs and its moment
pub record Call : Type 0 where
  pub input : Bool
  pub pt : ℤ
  pub moment : ℤ

-- TON before its first call, and behind calls, the last of which stands first
abbrev pub new_ton : Ton
new_ton = record { input = false; pt = pos 0; q = false; et = pos 0; running = false; start = pos 0 }

abbrev pub ton_after : List Call → Ton
ton_after [] = new_ton
ton_after (c ∷ cs) = on_delay (record (ton_after cs) { input = c.input; pt = c.pt }) c.moment

-- the moment of the call since which the input has been TRUE, where it is at the last one
abbrev pub true_since : Call → List Call → ℤ
true_since last [] = last.moment
true_since last (c ∷ cs) = if c.input then true_since c cs else last.moment

pub record IsDelayedOn (last : Call) (earlier : List Call) : Type 0 where
  pub q : (ton_after (last ∷ earlier)).q ≡ last.input && is_over last.pt (true_since last earlier) last.moment
  pub et : (ton_after (last ∷ earlier)).et ≡ (if last.input then shown last.pt (true_since last earlier) last.moment else pos 0)

-- Q of TON is TRUE exactly where the input has been TRUE for PT; ET says for how long it has been.
abbrev pub OnIsDelayed : Type 0
OnIsDelayed = (last : Call) (earlier : List Call) → IsDelayedOn last earlier

-- TOF and TP before their first call
abbrev pub new_timer : Timer
new_timer = record { input = false; pt = pos 0; q = false; et = pos 0; memory = false; running = false; start = pos 0 }

-- TOF behind calls, the last of which stands first
abbrev pub tof_after : List Call → Timer
tof_after [] = new_timer
tof_after (c ∷ cs) = off_delay (record (tof_after cs) { input = c.input; pt = c.pt }) c.moment

-- the moment of the call since which the input has been FALSE, where it is at the last one
abbrev pub false_since : Call → List Call → ℤ
false_since last [] = last.moment
false_since last (c ∷ cs) = if c.input then last.moment else false_since c cs

-- whether the input was TRUE at a call
abbrev pub was_true : List Call → Bool
was_true calls = list_any (λ c. c.input) calls

pub record IsDelayedOff (last : Call) (earlier : List Call) : Type 0 where
  pub q : (tof_after (last ∷ earlier)).q ≡ last.input || (was_true earlier && not (is_over last.pt (false_since last earlier) last.moment))
  pub et : (tof_after (last ∷ earlier)).et
      ≡ (if not last.input && was_true earlier then shown last.pt (false_since last earlier) last.moment else pos 0)

-- Q of TOF is TRUE exactly where the input is, and where it was and hasn't been FALSE for PT since then; ET says for how long.
abbrev pub OffIsDelayed : Type 0
OffIsDelayed = (last : Call) (earlier : List Call) → IsDelayedOff last earlier

-- TP behind calls, the last of which stands first
abbrev pub tp_after : Timer → List Call → Timer
tp_after t [] = t
tp_after t (c ∷ cs) = pulse (record (tp_after t cs) { input = c.input; pt = c.pt }) c.moment

-- the call comes before PT is over since this moment
abbrev pub ComesBefore : ℤ → Call → Type 0
ComesBefore start c = IsFalse (is_over c.pt start c.moment)

pub record IsKept (t : Timer) (last : Call) (earlier : List Call) : Type 0 where
  pub q : IsTrue (tp_after t (last ∷ earlier)).q
  pub et : (tp_after t (last ∷ earlier)).et ≡ shown last.pt t.start last.moment
  pub start : (tp_after t (last ∷ earlier)).start ≡ t.start

-- While a pulse runs, no input moves its start, and Q stays TRUE.
abbrev pub PulsesAreKept : Type 0
PulsesAreKept =
    (t : Timer) (last : Call) (earlier : List Call) → IsTrue t.running → All (ComesBefore t.start) (last ∷ earlier) → IsKept t last earlier

-- A pulse has begun at this call.
pub record IsBegun (t : Timer) (now : ℤ) : Type 0 where
  -- Q is TRUE unless the pulse has no length.
  pub q : (pulse t now).q ≡ int_lt (pos 0) (preset t.pt)
  pub et : (pulse t now).et ≡ pos 0
  pub running : IsTrue (pulse t now).running
  pub start : (pulse t now).start ≡ now

pub record IsTimed (t : Timer) (now : ℤ) : Type 0 where
  -- Where no pulse runs, an edge of the input begins one,
  pub begins : IsFalse (t.running && not (is_over t.pt t.start now)) → IsTrue (t.input && not t.memory) → IsBegun t now
  -- and without an edge Q is FALSE.
  pub none : IsFalse (t.running && not (is_over t.pt t.start now)) → IsFalse (t.input && not t.memory) → IsFalse (pulse t now).q
  -- Where Q is TRUE, PT isn't over since the start.
  pub runs : IsTrue (pulse t now).q → IsFalse (is_over t.pt (pulse t now).start now)
  -- An edge is seen against the call before.
  pub memory : (pulse t now).memory ≡ t.input

-- A pulse begins at an edge and isn't made longer by the input.
abbrev pub PulsesEnd : Type 0
PulsesEnd = (t : Timer) (now : ℤ) → IsTimed t now

-- ---- the leaves as records: nothing is lost, and what a block doesn't change stays

pub record AreRead (cells : List Value) : Type 0 where
  pub triggers : AreLeavesOf blocks.RTrig cells → trigger_cells (trigger_in cells) ≡ cells
  pub bistables : AreLeavesOf blocks.Sr cells → bistable_cells (bistable_in cells) ≡ cells
  pub counters : AreLeavesOf blocks.Ctu cells → counter_cells (counter_in cells) ≡ cells
  pub tons : AreLeavesOf blocks.Ton cells → ton_cells (ton_in cells) ≡ cells
  pub timers : AreLeavesOf blocks.Tof cells → timer_cells (timer_in cells) ≡ cells

abbrev pub CellsAreRead : Type 0
CellsAreRead = (cells : List Value) → AreRead cells

-- ---- inputs, and the values before the first call

abbrev pub is_input : Purpose → Bool
is_input purposes.Input = true
is_input _ = false

-- how many inputs a block has, which are its first leaves
abbrev pub inputs_of : StandardBlock → ℕ
inputs_of kind = count_by (λ p. is_input p.purpose) (pins_of kind)

-- No call changes an input.
abbrev pub InputsStay : Type 0
InputsStay =
    (kind : StandardBlock) (cells : List Value) (now : ℤ) → AreLeavesOf kind cells
    → take (inputs_of kind) (stepped kind cells now) ≡ take (inputs_of kind) cells

-- The leaves that a program lists for a block begin with values of their types.
abbrev pub BlocksBegin : Type 0
BlocksBegin = (kind : StandardBlock) → AreLeavesOf kind (map (λ leaf. leaf.initial) (block_leaves kind))

-- ---- values of their types

-- A call at a moment that a TIME can hold leaves each leaf a value of its type.
abbrev pub BlocksKeepTheirTypes : Type 0
BlocksKeepTheirTypes =
    (kind : StandardBlock) (cells : List Value) (now : ℤ) → IsTrue (in_range elems.Time now) → AreLeavesOf kind cells
    → AreLeavesOf kind (stepped kind cells now)
