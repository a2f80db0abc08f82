-- Standard functions, conversions and function blocks (2.5.1.5, 2.5.2.3).
use Rattle.std.specs.Prelude.{ℕ, List, [], ◌∷◌, ◌++◌, Option, Some, None, codes, if◌then◌else◌}
use Rattle.std.specs.List.{flat_map}
use Rattle.st_values.specs.Types.{name_of, is_same}
use Rattle.st_values.specs.Words.{is_word}
use Rattle.st_values.specs.declared.elem.Elem.{Elem}
use Rattle.st_values.specs.declared.elem.Elem.TheVariants as elems
use Rattle.st_types.specs.declared.base.Purpose.{Purpose}
use Rattle.st_types.specs.declared.base.Purpose.TheVariants as purposes
use Rattle.st_types.specs.declared.standard.Standard.{Standard}
use Rattle.st_types.specs.declared.standard.Standard.TheVariants as standards
use Rattle.st_types.specs.declared.standard.StandardBlock.{StandardBlock}
use Rattle.st_types.specs.declared.standard.StandardBlock.TheVariants as blocks
use Rattle.st_types.specs.declared.standard.StandardFunction.TheVariants as functions

-- ---- the standard function blocks (2.5.2.3, tables 34 to 37)

-- an input or an output
pub record Pin : Type 0 where
  pub name : List ℕ
  pub purpose : Purpose
  pub elem : Elem

abbrev pub input : List ℕ → Elem → Pin
input name elem = record { name = name; purpose = purposes.Input; elem = elem }

abbrev pub output : List ℕ → Elem → Pin
output name elem = record { name = name; purpose = purposes.Output; elem = elem }

abbrev pub timer_pins : List Pin
timer_pins =
    input (codes "IN") elems.Bool ∷ input (codes "PT") elems.Time
    ∷ output (codes "Q") elems.Bool ∷ output (codes "ET") elems.Time ∷ []

abbrev pub edge_pins : List Pin
edge_pins = input (codes "CLK") elems.Bool ∷ output (codes "Q") elems.Bool ∷ []

-- the input that sets, the one that resets, and the output
abbrev pub bistable_pins : List ℕ → List ℕ → List Pin
bistable_pins set reset = input set elems.Bool ∷ input reset elems.Bool ∷ output (codes "Q1") elems.Bool ∷ []

-- the input that is counted, the one that begins anew, and the preset; whether the end is reached, and the count
abbrev pub counter_pins : List ℕ → List ℕ → List Pin
counter_pins pulse restart =
    input pulse elems.Bool ∷ input restart elems.Bool ∷ input (codes "PV") elems.Int
    ∷ output (codes "Q") elems.Bool ∷ output (codes "CV") elems.Int ∷ []

-- what a block keeps behind its inputs and outputs
pub record Kept : Type 0 where
  pub name : List ℕ
  pub elem : Elem

abbrev pub keeps : List ℕ → Elem → Kept
keeps name elem = record { name = name; elem = elem }

-- what an edge is recognized by
abbrev pub edge_memory : List Kept
edge_memory = keeps (codes "M") elems.Bool ∷ []

-- whether a timer runs, and since when
abbrev pub timing : List Kept
timing = keeps (codes "RUN") elems.Bool ∷ keeps (codes "START") elems.Time ∷ []

-- a block: its name, its inputs and outputs in order, and what it keeps besides
pub record BlockRow : Type 0 where
  pub name : List ℕ
  pub pins : List Pin
  pub kept : List Kept

abbrev pub row : List ℕ → List Pin → List Kept → BlockRow
row name pins kept = record { name = name; pins = pins; kept = kept }

abbrev pub row_of : StandardBlock → BlockRow
row_of blocks.RTrig = row (codes "R_TRIG") edge_pins edge_memory
row_of blocks.FTrig = row (codes "F_TRIG") edge_pins edge_memory
row_of blocks.Sr = row (codes "SR") (bistable_pins (codes "S1") (codes "R")) []
row_of blocks.Rs = row (codes "RS") (bistable_pins (codes "S") (codes "R1")) []
row_of blocks.Ctu = row (codes "CTU") (counter_pins (codes "CU") (codes "R")) edge_memory
row_of blocks.Ctd = row (codes "CTD") (counter_pins (codes "CD") (codes "LD")) edge_memory
row_of blocks.Ton = row (codes "TON") timer_pins timing
row_of blocks.Tof = row (codes "TOF") timer_pins (edge_memory ++ timing)
row_of blocks.Tp = row (codes "TP") timer_pins (edge_memory ++ timing)

abbrev pub block_name : StandardBlock → List ℕ
block_name b = (row_of b).name

abbrev pub pins_of : StandardBlock → List Pin
pins_of b = (row_of b).pins

abbrev pub kept_by : StandardBlock → List Kept
kept_by b = (row_of b).kept

abbrev pub pin_named : List Pin → List ℕ → Option Pin
pin_named [] name = None
pin_named (p ∷ ps) name = if is_word p.name name then Some p else pin_named ps name

-- ---- standard names

-- a standard name, and what it stands for
pub record Entry : Type 0 where
  pub name : List ℕ
  pub standard : Standard

abbrev pub entry : List ℕ → Standard → Entry
entry name standard = record { name = name; standard = standard }

abbrev pub block_entry : StandardBlock → Entry
block_entry b = entry (block_name b) (standards.Block b)

-- the functions and function blocks
abbrev pub listed : List Entry
listed =
    entry (codes "ABS") (standards.Function functions.Abs)
    ∷ entry (codes "MIN") (standards.Function functions.Min)
    ∷ entry (codes "MAX") (standards.Function functions.Max)
    ∷ entry (codes "LIMIT") (standards.Function functions.Limit)
    ∷ entry (codes "SEL") (standards.Function functions.Sel)
    ∷ entry (codes "SHL") (standards.Function functions.Shl)
    ∷ entry (codes "SHR") (standards.Function functions.Shr)
    ∷ entry (codes "ROL") (standards.Function functions.Rol)
    ∷ entry (codes "ROR") (standards.Function functions.Ror)
    ∷ block_entry blocks.RTrig
    ∷ block_entry blocks.FTrig
    ∷ block_entry blocks.Sr
    ∷ block_entry blocks.Rs
    ∷ block_entry blocks.Ctu
    ∷ block_entry blocks.Ctd
    ∷ block_entry blocks.Ton
    ∷ block_entry blocks.Tof
    ∷ block_entry blocks.Tp
    ∷ []

-- the types that convert into one another: all but TIME
abbrev pub converting : List Elem
converting =
    elems.Bool ∷ elems.Sint ∷ elems.Int ∷ elems.Dint ∷ elems.Lint ∷ elems.Usint ∷ elems.Uint ∷ elems.Udint ∷ elems.Ulint
    ∷ elems.Byte ∷ elems.Word ∷ elems.Dword ∷ elems.Lword ∷ []

-- `X_TO_Y`, of two different types
abbrev pub conversion : Elem → Elem → List Entry
conversion x y = if is_same x y then [] else entry (name_of x ++ codes "_TO_" ++ name_of y) (standards.Conversion x y) ∷ []

abbrev pub conversions : List Entry
conversions = flat_map (λ x. flat_map (conversion x) converting) converting

abbrev pub entry_named : List Entry → List ℕ → Option Standard
entry_named [] name = None
entry_named (e ∷ es) name = if is_word e.name name then Some e.standard else entry_named es name

-- what a standard name stands for
unfoldable pub standard_of : List ℕ → Option Standard
standard_of name = entry_named (listed ++ conversions) name
