-- A block keeps its inputs, and begins with values of its leaves.
use Rattle.std.proofs.Common.{◌≡◌, ℤ, Bool, true, false, take, refl, ap, ◌∙◌}
use Rattle.st_types.specs.declared.standard.StandardBlock.TheVariants as blocks
use Rattle.st_blocks.specs.Blocks.{is_over, off_delay, on_delay}
use Rattle.st_blocks.specs.Cells.{timer_cells, timer_in, ton_cells, ton_in}
use Rattle.st_blocks.specs.Laws.{BlocksBegin, InputsStay}
use Rattle.st_blocks.specs.declared.timer.Timer.{Timer}
use Rattle.st_blocks.specs.declared.ton.Ton.{Ton}
use Rattle.st_blocks.proofs.CellLemmas.{bistable_read, counter_read, timer_read, ton_read, trigger_read}
use Rattle.st_blocks.proofs.TimeLemmas.{pulse_by}

on_inputs : (input : Bool) (t : Ton) (now : ℤ)
    → take 2 (ton_cells (on_delay (record t { input = input }) now)) ≡ take 2 (ton_cells (record t { input = input }))
on_inputs true t now = refl
on_inputs false t now = refl

off_inputs : (input memory running : Bool) (t : Timer) (now : ℤ)
    → take 2 (timer_cells (off_delay (record t { input = input; memory = memory; running = running }) now)) ≡ take 2 (timer_cells (record t { input = input }))
off_inputs true memory running t now = refl
off_inputs false true running t now = refl
off_inputs false false true t now = refl
off_inputs false false false t now = refl

pulse_inputs : (over running input memory : Bool) (t : Timer) (now : ℤ)
    → take 2 (timer_cells (pulse_by over (record t { input = input; memory = memory; running = running }) now))
    ≡ take 2 (timer_cells (record t { input = input }))
pulse_inputs false true input memory t now = refl
pulse_inputs true true true false t now = refl
pulse_inputs true true true true t now = refl
pulse_inputs true true false memory t now = refl
pulse_inputs over false true false t now = refl
pulse_inputs over false true true t now = refl
pulse_inputs over false false memory t now = refl

pub inputs_stay : InputsStay
inputs_stay blocks.RTrig cells now h = ap (take 1) (trigger_read cells h)
inputs_stay blocks.FTrig cells now h = ap (take 1) (trigger_read cells h)
inputs_stay blocks.Sr cells now h = ap (take 2) (bistable_read cells h)
inputs_stay blocks.Rs cells now h = ap (take 2) (bistable_read cells h)
inputs_stay blocks.Ctu cells now h = ap (take 3) (counter_read cells h)
inputs_stay blocks.Ctd cells now h = ap (take 3) (counter_read cells h)
inputs_stay blocks.Ton cells now h = on_inputs (ton_in cells).input (ton_in cells) now ∙ ap (take 2) (ton_read cells h)
inputs_stay blocks.Tof cells now h =
    let t : Timer = timer_in cells in
    off_inputs t.input t.memory t.running t now ∙ ap (take 2) (timer_read cells h)
inputs_stay blocks.Tp cells now h =
    let t : Timer = timer_in cells in
    pulse_inputs (is_over t.pt t.start now) t.running t.input t.memory t now ∙ ap (take 2) (timer_read cells h)

pub blocks_begin : BlocksBegin
blocks_begin blocks.RTrig = ((refl, refl), ((refl, refl), ((refl, refl), tt)))
blocks_begin blocks.FTrig = ((refl, refl), ((refl, refl), ((refl, refl), tt)))
blocks_begin blocks.Sr = ((refl, refl), ((refl, refl), ((refl, refl), tt)))
blocks_begin blocks.Rs = ((refl, refl), ((refl, refl), ((refl, refl), tt)))
blocks_begin blocks.Ctu = ((refl, refl), ((refl, refl), ((refl, refl), ((refl, refl), ((refl, refl), ((refl, refl), tt))))))
blocks_begin blocks.Ctd = ((refl, refl), ((refl, refl), ((refl, refl), ((refl, refl), ((refl, refl), ((refl, refl), tt))))))
blocks_begin blocks.Ton = ((refl, refl), ((refl, refl), ((refl, refl), ((refl, refl), ((refl, refl), ((refl, refl), tt))))))
blocks_begin blocks.Tof = ((refl, refl), ((refl, refl), ((refl, refl), ((refl, refl), ((refl, refl), ((refl, refl), ((refl, refl), tt)))))))
blocks_begin blocks.Tp = ((refl, refl), ((refl, refl), ((refl, refl), ((refl, refl), ((refl, refl), ((refl, refl), ((refl, refl), tt)))))))
