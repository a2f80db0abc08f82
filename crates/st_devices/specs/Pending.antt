-- The bytes of a source, and what was read of them.
use Rattle.std.specs.Prelude.{◌≡◌, ◌<◌, ◌+◌, ◌⊎◌, ℕ, Bool, true, false, nat_lt, if◌then◌else◌, List, [], ◌∷◌, ◌++◌, length, take, All, Option, Some, None, ⊤}
use Rattle.st_devices.specs.Lines.{Line, is_lf, ended_line, last_line}
use Rattle.st_devices.specs.declared.input.Found.{Found}
use Rattle.st_devices.specs.declared.input.Found.TheVariants as findings
use Rattle.st_devices.specs.declared.input.Piece.{Piece}

-- the bytes can be those of a source: where they are known they are these, and else they can be any
abbrev pub CanBe : Option (List ℕ) → List ℕ → Type 0
CanBe None bytes = ⊤
CanBe (Some known) bytes = bytes ≡ known

-- P holds of the known bytes, and of some bytes where they aren't known
abbrev pub OnBytes : Option (List ℕ) → (List ℕ → Type 0) → Type 0
OnBytes known P = (bytes : List ℕ) × CanBe known bytes × P bytes

-- the same of the bytes before and after, whichever are left
abbrev pub OnReading : Option (List ℕ) → Option (List ℕ) → (List ℕ → List ℕ → Type 0) → Type 0
OnReading old new P = (rest : List ℕ) → CanBe new rest → OnBytes old (λ bytes. P bytes rest)

-- the first byte was taken, or there is none
abbrev pub TakesByte : Option ℕ → List ℕ → List ℕ → Type 0
TakesByte (Some byte) bytes rest = bytes ≡ byte ∷ rest
TakesByte None bytes rest = (bytes ≡ []) × (rest ≡ [])

-- no byte is an LF
abbrev pub NoLf : List ℕ → Type 0
NoLf part = All (λ byte. is_lf byte ≡ false) part

-- a part without an LF was taken
abbrev pub TakesPart : List ℕ → List ℕ → Type 0
TakesPart bytes rest = (part : List ℕ) × (bytes ≡ part ++ rest) × NoLf part

-- a piece of a line was taken, with its LF where it is ended, and the first 4,096 bytes of the line were kept
pub record TakesSome (is_ended is_cut : Bool) (before now bytes rest : List ℕ) : Type 0 where
  pub part : List ℕ
  pub split : bytes ≡ part ++ (if is_ended then 10 ∷ rest else rest)
  pub no_lf : NoLf part
  pub some : is_ended ≡ false → 0 < length part
  pub kept : now ≡ take 4096 (before ++ part)
  pub cut : is_cut ≡ nat_lt 4096 (length before + length part)

-- a piece of a line was taken, or there is none
abbrev pub TakesPiece : Option Piece → List ℕ → List ℕ → List ℕ → List ℕ → Type 0
TakesPiece None before now bytes rest = (bytes ≡ []) × (rest ≡ []) × (now ≡ before)
TakesPiece (Some piece) before now bytes rest = TakesSome piece.is_ended piece.is_cut before now bytes rest

-- the line before the first LF was taken, with its LF
pub record TakesEnded (line : Line) (bytes rest : List ℕ) : Type 0 where
  pub part : List ℕ
  pub split : bytes ≡ part ++ 10 ∷ rest
  pub no_lf : NoLf part
  pub is : line ≡ ended_line part

-- the last line was taken, which has no LF
pub record TakesLast (line : Line) (bytes rest : List ℕ) : Type 0 where
  pub whole : rest ≡ []
  pub no_lf : NoLf bytes
  pub some : 0 < length bytes
  pub is : line ≡ last_line bytes

-- a line was taken, the last one only at the end
abbrev pub TakesLine : Bool → Line → List ℕ → List ℕ → Type 0
TakesLine at_end line bytes rest = TakesEnded line bytes rest ⊎ (TakesLast line bytes rest × (at_end ≡ true))

-- a line was taken into the buffer, or passed over as too long, or there is none
abbrev pub TakesFound : Found → Bool → List ℕ → List ℕ → List ℕ → Type 0
TakesFound findings.End at_end text bytes rest = (bytes ≡ []) × (rest ≡ [])
TakesFound findings.Line at_end text bytes rest = TakesLine at_end (record { text = text; is_long = false }) bytes rest
TakesFound findings.TooLong at_end text bytes rest = (long : List ℕ) × TakesLine at_end (record { text = long; is_long = true }) bytes rest

-- there is a line
abbrev pub IsFound : Found → Type 0
IsFound findings.End = ⊥
IsFound findings.Line = ⊤
IsFound findings.TooLong = ⊤
