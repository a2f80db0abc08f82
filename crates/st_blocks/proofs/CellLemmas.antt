-- The values of a block's leaves are those of its record.
use Rattle.std.specs.Ordering.{int_eq}
use Rattle.std.proofs.Common.{◌≡◌, ℤ, pos, negsuc, suc, zero, not, List, [], ◌∷◌, refl, sym, ap, ◌∙◌, subst, arith, ltb-true}
use Rattle.st_values.specs.Values.{IsValue, truth, IsOfType}
use Rattle.st_values.specs.declared.elem.Elem.{Elem}
use Rattle.st_values.specs.declared.elem.Elem.TheVariants as elems
use Rattle.st_values.specs.declared.value.Value.{Value}
use Rattle.st_types.specs.declared.standard.StandardBlock.TheVariants as blocks
use Rattle.st_blocks.specs.Cells.{AreLeavesOf, bistable_cells, bistable_in, counter_cells, counter_in, of_type, timer_cells, timer_in, ton_cells, ton_in, trigger_cells, trigger_in}
use Rattle.st_blocks.specs.Laws.{CellsAreRead}

-- a BOOL is 0 or 1
bits_read : (bits : ℤ) → IsOfType elems.Bool (of_type elems.Bool bits) → truth (not (int_eq bits (pos 0))) ≡ of_type elems.Bool bits
bits_read (pos zero) h = refl
bits_read (pos (suc zero)) h = refl
bits_read (pos (suc (suc n))) h = absurd (omega (arith, ltb-true (suc (suc n)) 2 h.1))
bits_read (negsuc n) h = cc

-- the value of this type and number
typed : (elem : Elem) (v : Value) → v.elem ≡ elem → v ≡ of_type elem v.bits
typed elem v same = ap (λ e. of_type e v.bits) same

flag_read : (v : Value) → IsOfType elems.Bool v → truth (not (int_eq v.bits (pos 0))) ≡ v
flag_read v h = bits_read v.bits (refl, subst IsValue (typed elems.Bool v h.0) h.1) ∙ sym (typed elems.Bool v h.0)

number_read : (elem : Elem) (v : Value) → IsOfType elem v → of_type elem v.bits ≡ v
number_read elem v h = sym (typed elem v h.0)

-- lists of as many values as a block has leaves
pub trigger_read : (cells : List Value) → AreLeavesOf blocks.RTrig cells → trigger_cells (trigger_in cells) ≡ cells
trigger_read [] h = absurd h
trigger_read (a ∷ []) h = absurd h.1
trigger_read (a ∷ b ∷ []) h = absurd h.1.1
trigger_read (a ∷ b ∷ c ∷ []) h =
    let x = flag_read a h.0 in let y = flag_read b h.1.0 in let z = flag_read c h.1.1.0 in cc
trigger_read (a ∷ b ∷ c ∷ d ∷ more) h = absurd h.1.1.1

pub bistable_read : (cells : List Value) → AreLeavesOf blocks.Sr cells → bistable_cells (bistable_in cells) ≡ cells
bistable_read [] h = absurd h
bistable_read (a ∷ []) h = absurd h.1
bistable_read (a ∷ b ∷ []) h = absurd h.1.1
bistable_read (a ∷ b ∷ c ∷ []) h =
    let x = flag_read a h.0 in let y = flag_read b h.1.0 in let z = flag_read c h.1.1.0 in cc
bistable_read (a ∷ b ∷ c ∷ d ∷ more) h = absurd h.1.1.1

pub counter_read : (cells : List Value) → AreLeavesOf blocks.Ctu cells → counter_cells (counter_in cells) ≡ cells
counter_read [] h = absurd h
counter_read (a ∷ []) h = absurd h.1
counter_read (a ∷ b ∷ []) h = absurd h.1.1
counter_read (a ∷ b ∷ c ∷ []) h = absurd h.1.1.1
counter_read (a ∷ b ∷ c ∷ d ∷ []) h = absurd h.1.1.1.1
counter_read (a ∷ b ∷ c ∷ d ∷ e ∷ []) h = absurd h.1.1.1.1.1
counter_read (a ∷ b ∷ c ∷ d ∷ e ∷ f ∷ []) h =
    let x = flag_read a h.0 in
    let y = flag_read b h.1.0 in
    let z = number_read elems.Int c h.1.1.0 in
    let u = flag_read d h.1.1.1.0 in
    let v = number_read elems.Int e h.1.1.1.1.0 in
    let w = flag_read f h.1.1.1.1.1.0 in
    cc
counter_read (a ∷ b ∷ c ∷ d ∷ e ∷ f ∷ g ∷ more) h = absurd h.1.1.1.1.1.1

pub ton_read : (cells : List Value) → AreLeavesOf blocks.Ton cells → ton_cells (ton_in cells) ≡ cells
ton_read [] h = absurd h
ton_read (a ∷ []) h = absurd h.1
ton_read (a ∷ b ∷ []) h = absurd h.1.1
ton_read (a ∷ b ∷ c ∷ []) h = absurd h.1.1.1
ton_read (a ∷ b ∷ c ∷ d ∷ []) h = absurd h.1.1.1.1
ton_read (a ∷ b ∷ c ∷ d ∷ e ∷ []) h = absurd h.1.1.1.1.1
ton_read (a ∷ b ∷ c ∷ d ∷ e ∷ f ∷ []) h =
    let x = flag_read a h.0 in
    let y = number_read elems.Time b h.1.0 in
    let z = flag_read c h.1.1.0 in
    let u = number_read elems.Time d h.1.1.1.0 in
    let v = flag_read e h.1.1.1.1.0 in
    let w = number_read elems.Time f h.1.1.1.1.1.0 in
    cc
ton_read (a ∷ b ∷ c ∷ d ∷ e ∷ f ∷ g ∷ more) h = absurd h.1.1.1.1.1.1

pub timer_read : (cells : List Value) → AreLeavesOf blocks.Tof cells → timer_cells (timer_in cells) ≡ cells
timer_read [] h = absurd h
timer_read (a ∷ []) h = absurd h.1
timer_read (a ∷ b ∷ []) h = absurd h.1.1
timer_read (a ∷ b ∷ c ∷ []) h = absurd h.1.1.1
timer_read (a ∷ b ∷ c ∷ d ∷ []) h = absurd h.1.1.1.1
timer_read (a ∷ b ∷ c ∷ d ∷ e ∷ []) h = absurd h.1.1.1.1.1
timer_read (a ∷ b ∷ c ∷ d ∷ e ∷ f ∷ []) h = absurd h.1.1.1.1.1.1
timer_read (a ∷ b ∷ c ∷ d ∷ e ∷ f ∷ g ∷ []) h =
    let x = flag_read a h.0 in
    let y = number_read elems.Time b h.1.0 in
    let z = flag_read c h.1.1.0 in
    let u = number_read elems.Time d h.1.1.1.0 in
    let v = flag_read e h.1.1.1.1.0 in
    let w = flag_read f h.1.1.1.1.1.0 in
    let s = number_read elems.Time g h.1.1.1.1.1.1.0 in
    cc
timer_read (a ∷ b ∷ c ∷ d ∷ e ∷ f ∷ g ∷ i ∷ more) h = absurd h.1.1.1.1.1.1.1

pub cells_are_read : CellsAreRead
cells_are_read cells = record {
  triggers = trigger_read cells;
  bistables = bistable_read cells;
  counters = counter_read cells;
  tons = ton_read cells;
  timers = timer_read cells;
}
