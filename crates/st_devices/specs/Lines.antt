-- The lines of a session.
use Rattle.std.specs.Prelude.{ℕ, Bool, ◌==◌, nat_lt, if◌then◌else◌, List, [], ◌∷◌, length}
use Rattle.std.specs.List.{slice_split}
use Rattle.std.specs.Str.Lines.{strip_carriage_return}

-- a line: its bytes, and whether it is too long for a command
pub record Line : Type 0 where
  pub text : List ℕ
  pub is_long : Bool

-- whether a byte is an LF
abbrev pub is_lf : ℕ → Bool
is_lf byte = byte == 10

-- the parts of a text between its LFs
abbrev pub parts_of : List ℕ → List (List ℕ)
parts_of bytes = slice_split is_lf bytes

-- the line of a part before an LF, without one CR at its end: the CR counts among the 4,096 bytes
abbrev pub ended_line : List ℕ → Line
ended_line part = record { text = strip_carriage_return part; is_long = nat_lt 4096 (length part) }

-- the line of the part after the last LF
abbrev pub last_line : List ℕ → Line
last_line part = record { text = part; is_long = nat_lt 4096 (length part) }

-- an empty part after the last LF is no line
abbrev pub lines_in : List (List ℕ) → List Line
lines_in [] = []
lines_in (part ∷ []) = if length part == 0 then [] else last_line part ∷ []
lines_in (part ∷ next ∷ more) = ended_line part ∷ lines_in (next ∷ more)

-- the lines of a text
abbrev pub lines_of : List ℕ → List Line
lines_of bytes = lines_in (parts_of bytes)

-- the part after the last LF is left out
abbrev pub whole_lines_in : List (List ℕ) → List Line
whole_lines_in [] = []
whole_lines_in (part ∷ []) = []
whole_lines_in (part ∷ next ∷ more) = ended_line part ∷ whole_lines_in (next ∷ more)

-- the lines of a text that stand whole, each with its LF
abbrev pub whole_lines_of : List ℕ → List Line
whole_lines_of bytes = whole_lines_in (parts_of bytes)
