-- The leaves of the standard function blocks as records: each place by its name.
use Rattle.std.specs.Ordering.{int_eq}
use Rattle.std.specs.Prelude.{◌≡◌, ℕ, ℤ, pos, Bool, false, not, List, [], ◌∷◌, get_or, map}
use Rattle.std.specs.List.{AllZip}
use Rattle.st_values.specs.Values.{IsOfType, truth}
use Rattle.st_values.specs.declared.elem.Elem.{Elem}
use Rattle.st_values.specs.declared.elem.Elem.TheVariants as elems
use Rattle.st_values.specs.declared.value.Value.{Value}
use Rattle.st_types.specs.declared.standard.StandardBlock.{StandardBlock}
use Rattle.st_leaves.specs.Leaves.{standard_leaves}
use Rattle.st_blocks.specs.declared.bistable.Bistable.{Bistable}
use Rattle.st_blocks.specs.declared.counter.Counter.{Counter}
use Rattle.st_blocks.specs.declared.timer.Timer.{Timer}
use Rattle.st_blocks.specs.declared.ton.Ton.{Ton}
use Rattle.st_blocks.specs.declared.trigger.Trigger.{Trigger}

-- the types of a block's leaves, in order
abbrev pub types_of : StandardBlock → List Elem
types_of kind = map (λ leaf. leaf.elem) (standard_leaves kind)

-- as many values as the block has leaves, each of its leaf's type
abbrev pub AreLeavesOf : StandardBlock → List Value → Type 0
AreLeavesOf kind cells = AllZip IsOfType (types_of kind) cells

-- the number at this place
abbrev pub number_at : List Value → ℕ → ℤ
number_at cells place = (get_or cells place (truth false)).bits

-- whether the BOOL at this place is TRUE
abbrev pub flag_at : List Value → ℕ → Bool
flag_at cells place = not (int_eq (number_at cells place) (pos 0))

-- a number as a value of a type
abbrev pub of_type : Elem → ℤ → Value
of_type elem number = record { elem = elem; bits = number }

-- ---- R_TRIG and F_TRIG: CLK, Q, $M

abbrev pub trigger_in : List Value → Trigger
trigger_in cells = record { clk = flag_at cells 0; q = flag_at cells 1; memory = flag_at cells 2 }

abbrev pub trigger_cells : Trigger → List Value
trigger_cells t = truth t.clk ∷ truth t.q ∷ truth t.memory ∷ []

-- ---- SR: S1, R, Q1; and RS: S, R1, Q1

abbrev pub bistable_in : List Value → Bistable
bistable_in cells = record { set = flag_at cells 0; reset = flag_at cells 1; q = flag_at cells 2 }

abbrev pub bistable_cells : Bistable → List Value
bistable_cells b = truth b.set ∷ truth b.reset ∷ truth b.q ∷ []

-- ---- CTU: CU, R, PV, Q, CV, $M; and CTD: CD, LD, PV, Q, CV, $M

abbrev pub counter_in : List Value → Counter
counter_in cells = record {
  pulse = flag_at cells 0;
  restart = flag_at cells 1;
  pv = number_at cells 2;
  q = flag_at cells 3;
  cv = number_at cells 4;
  memory = flag_at cells 5;
}

abbrev pub counter_cells : Counter → List Value
counter_cells c = truth c.pulse ∷ truth c.restart ∷ of_type elems.Int c.pv ∷ truth c.q ∷ of_type elems.Int c.cv ∷ truth c.memory ∷ []

-- ---- TON: IN, PT, Q, ET, $RUN, $START

abbrev pub ton_in : List Value → Ton
ton_in cells = record {
  input = flag_at cells 0;
  pt = number_at cells 1;
  q = flag_at cells 2;
  et = number_at cells 3;
  running = flag_at cells 4;
  start = number_at cells 5;
}

abbrev pub ton_cells : Ton → List Value
ton_cells t =
    truth t.input ∷ of_type elems.Time t.pt ∷ truth t.q ∷ of_type elems.Time t.et ∷ truth t.running ∷ of_type elems.Time t.start ∷ []

-- ---- TOF and TP: IN, PT, Q, ET, $M, $RUN, $START

abbrev pub timer_in : List Value → Timer
timer_in cells = record {
  input = flag_at cells 0;
  pt = number_at cells 1;
  q = flag_at cells 2;
  et = number_at cells 3;
  memory = flag_at cells 4;
  running = flag_at cells 5;
  start = number_at cells 6;
}

abbrev pub timer_cells : Timer → List Value
timer_cells t =
    truth t.input ∷ of_type elems.Time t.pt ∷ truth t.q ∷ of_type elems.Time t.et ∷ truth t.memory ∷ truth t.running
    ∷ of_type elems.Time t.start ∷ []
