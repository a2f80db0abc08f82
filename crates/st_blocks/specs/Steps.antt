-- One invocation of a standard function block, over the values of its leaves.
use Rattle.std.specs.Prelude.{ℤ, List}
use Rattle.st_values.specs.declared.value.Value.{Value}
use Rattle.st_types.specs.declared.standard.StandardBlock.{StandardBlock}
use Rattle.st_types.specs.declared.standard.StandardBlock.TheVariants as blocks
use Rattle.st_blocks.specs.Blocks.{counted_down, counted_up, fallen, off_delay, on_delay, pulse, reset_dominant, risen, set_dominant}
use Rattle.st_blocks.specs.Cells.{bistable_cells, bistable_in, counter_cells, counter_in, timer_cells, timer_in, ton_cells, ton_in, trigger_cells, trigger_in}

-- the new values of a block's leaves, from all old ones and the moment
abbrev pub stepped : StandardBlock → List Value → ℤ → List Value
stepped blocks.RTrig cells now = trigger_cells (risen (trigger_in cells))
stepped blocks.FTrig cells now = trigger_cells (fallen (trigger_in cells))
stepped blocks.Sr cells now = bistable_cells (set_dominant (bistable_in cells))
stepped blocks.Rs cells now = bistable_cells (reset_dominant (bistable_in cells))
stepped blocks.Ctu cells now = counter_cells (counted_up (counter_in cells))
stepped blocks.Ctd cells now = counter_cells (counted_down (counter_in cells))
stepped blocks.Ton cells now = ton_cells (on_delay (ton_in cells) now)
stepped blocks.Tof cells now = timer_cells (off_delay (timer_in cells) now)
stepped blocks.Tp cells now = timer_cells (pulse (timer_in cells) now)
