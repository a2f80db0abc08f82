-- The rows of the standard function blocks, in code.
use Rattle.std.specs.Prelude.{map}
use Rattle.st_types.specs.Standard.{BlockRow, Kept, Pin}
use Rattle.st_types.specs.declared.pin.BlockRow.{BlockRow as BlockData}
use Rattle.st_types.specs.declared.pin.Kept.{Kept as KeptData}
use Rattle.st_types.specs.declared.pin.Pin.{Pin as Row}

-- a row of a table as a pin
abbrev pub seen : Row → Pin
seen row = record { name = row.name.now; purpose = row.purpose; elem = row.elem }

-- one as what is kept
abbrev pub seen_kept : KeptData → Kept
seen_kept kept = record { name = kept.name.now; elem = kept.elem }

-- one as a block
abbrev pub seen_block : BlockData → BlockRow
seen_block block = record {
  name = block.name.now;
  pins = map seen block.pins.now;
  kept = map seen_kept block.kept.now;
}
