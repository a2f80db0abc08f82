-- What runs where the name of an instance of a function block is called (3.3.2.2).
use Rattle.std.specs.Prelude.{ℕ, List, Option, Some, None}
use Rattle.st_types.specs.declared.standard.StandardBlock.{StandardBlock}
use Rattle.st_leaves.specs.Selected.{selected_by}
use Rattle.st_meaning.specs.Offsets.{offset_of}
use Rattle.st_meaning.specs.Wholes.{Invoked, Whole, block_of}
use Rattle.st_code.specs.declared.instr.Instr.{Instr}
use Rattle.st_code.specs.declared.instr.Instr.TheVariants.{Enter, Invoke}

-- a block of the text, of whose instance this is the first leaf
abbrev pub entering : ℕ → Option Invoked → Option Instr
entering first None = None
entering first (Some unit) = Some (Enter first unit.number)

-- a standard block, or else one of the text
abbrev pub running : ℕ → Option StandardBlock → Option Invoked → Option Instr
running first (Some b) unit = Some (Invoke b first)
running first None unit = entering first unit

-- the instruction that runs the block of which the name is an instance
abbrev pub instance_instr : Whole → List ℕ → Option Instr
instance_instr w name = running (offset_of w.variables name) (block_of (selected_by w.variables name)) (w.invoked name)
