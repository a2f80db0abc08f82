-- Where things stand in a text.
use Rattle.std.specs.Prelude.{◌≡◌, ℕ, ◌+◌, ◌≤◌, ◌==◌, if◌then◌else◌, List, [], ◌∷◌, ◌++◌, codes, length, take}
use Rattle.std.specs.Int.{is_in_range}
use Rattle.std.specs.List.{sum_by}

-- a line ends after its line feed
abbrev pub line_end : ℕ → ℕ
line_end b = if b == 10 then 1 else 0

-- a character of UTF-8 begins with the byte that doesn't continue one
abbrev pub character_begin : ℕ → ℕ
character_begin b = if is_in_range 0x80 0xBF b then 0 else 1

-- what follows the last line feed, where `line` is the last line so far
abbrev pub line_from : List ℕ → List ℕ → List ℕ
line_from line [] = line
line_from line (b ∷ bs) = if b == 10 then line_from bs bs else line_from line bs

-- what follows the last line feed
abbrev pub last_line : List ℕ → List ℕ
last_line before = line_from before before

-- the line of what follows these bytes, from 1: one more than the line feeds among them
abbrev pub line_after : List ℕ → ℕ
line_after before = 1 + sum_by line_end before

-- one more than the characters of a line
abbrev pub column_in : List ℕ → ℕ
column_in line = 1 + sum_by character_begin line

-- the column of what follows these bytes, from 1: one more than the characters behind the last line feed
abbrev pub column_after : List ℕ → ℕ
column_after before = column_in (last_line before)

-- ---- lines

-- the line of what stands behind so many bytes
abbrev pub line_at : List ℕ → ℕ → ℕ
line_at text start = line_after (take start text)

-- the text has a line of this number, from 1
abbrev pub HasLine : List ℕ → ℕ → Type 0
HasLine text line = (1 ≤ line) × (line ≤ line_after text)

-- what stands on a line is what stands from here up to there
pub record IsLine (text : List ℕ) (line start end : ℕ) : Type 0 where
  pub on : (s : ℕ) → start ≤ s → s ≤ end → line_at text s ≡ line
  pub only : (s : ℕ) → s ≤ length text → line_at text s ≡ line → (start ≤ s) × (s ≤ end)

-- with this a line ends: nothing follows, or its line feed, which may have a carriage return before it
pub data EndsLine : List ℕ → Type 0 where
  text_ends : EndsLine []
  feed : {rest : List ℕ} → EndsLine (codes "\n" ++ rest)
  return : {rest : List ℕ} → EndsLine (codes "\r\n" ++ rest)
