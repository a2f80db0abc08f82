-- The commands that the lines of a session are: a change is one with its source lines.
use Rattle.std.specs.Prelude.{ℕ, ◌≡◌, Bool, if◌then◌else◌, false, List, [], ◌∷◌, ◌++◌, Option, Some, None, codes}
use Rattle.std.specs.Option.{option_map_or}
use Rattle.std.specs.Str.{bytes_eq}
use Rattle.st_devices.specs.Lines.{Line, lines_of, whole_lines_of}
use Rattle.st_devices.specs.Words.{words_of}
use Rattle.st_layout.specs.declared.renames.Rename.{Rename}
use Rattle.st_lines.specs.Requests.{RequestView, request_on}

-- a change: its renames, and its text, as far as it was read
pub record Change : Type 0 where
  pub renames : List Rename
  pub text : List ℕ

-- what a command is: a line, a change whose text is ended, or one whose text isn't
pub data Asked : Type 0 where
  one : Line → Asked
  change : Change → Asked
  unended : Asked

-- ---- lines that begin and end a change

abbrev pub change_with : List Rename → List ℕ → Change
change_with renames text = record { renames = renames; text = text }

-- a change of which only the line was read
abbrev pub new_change : List Rename → Change
new_change renames = change_with renames []

-- a change with one more source line
abbrev pub with_line : Change → Line → Change
with_line begun line = record { renames = begun.renames; text = begun.text ++ line.text ++ 10 ∷ [] }

-- the change that a request begins
abbrev pub begun_by : RequestView → Option Change
begun_by (RequestView.change renames) = Some (new_change renames)
begun_by request = None

-- the change that a line begins
abbrev pub begun_on : Line → Option Change
begun_on line = begun_by (request_on line)

-- the only word is `end_change`
abbrev pub is_end : List (List ℕ) → Bool
is_end [] = false
is_end (word ∷ []) = bytes_eq word (codes "end_change")
is_end (word ∷ next ∷ more) = false

-- a line ends the text of a change, however long it is
abbrev pub ends_text : Line → Bool
ends_text line = is_end (words_of line.text)

-- ---- the commands of lines

-- the commands in lines: between commands, or within a change
abbrev pub asked_from : Option Change → List Line → List Asked
asked_from None [] = []
asked_from (Some begun) [] = unended ∷ []
asked_from None (line ∷ lines) = option_map_or (λ begun. asked_from (Some begun) lines) (begun_on line) (one line ∷ asked_from None lines)
asked_from (Some begun) (line ∷ lines) =
    if ends_text line then change begun ∷ asked_from None lines else asked_from (Some (with_line begun line)) lines

-- the same of lines that stand whole: a change that isn't ended is left out
abbrev pub whole_from : Option Change → List Line → List Asked
whole_from None [] = []
whole_from (Some begun) [] = []
whole_from None (line ∷ lines) = option_map_or (λ begun. whole_from (Some begun) lines) (begun_on line) (one line ∷ whole_from None lines)
whole_from (Some begun) (line ∷ lines) =
    if ends_text line then change begun ∷ whole_from None lines else whole_from (Some (with_line begun line)) lines

-- where lines end: between commands, or within a change
abbrev pub end_from : Option Change → List Line → Option Change
end_from begun [] = begun
end_from None (line ∷ lines) = option_map_or (λ begun. end_from (Some begun) lines) (begun_on line) (end_from None lines)
end_from (Some begun) (line ∷ lines) = if ends_text line then end_from None lines else end_from (Some (with_line begun line)) lines

-- the commands of a text
abbrev pub asked_of : List ℕ → List Asked
asked_of bytes = asked_from None (lines_of bytes)

-- the commands of a text that stand whole, each with its LF, and a change with that of its `end_change`
abbrev pub whole_asked_of : List ℕ → List Asked
whole_asked_of bytes = whole_from None (whole_lines_of bytes)

-- ---- commands that are taken off the bytes

-- the first command was taken, with the LF of its last line where it has one; before it a change may have begun
pub record TakesCommand (begun : Option Change) (asked : Asked) (at_end : Bool) (bytes rest : List ℕ) : Type 0 where
  pub read : List ℕ
  pub split : bytes ≡ read ++ rest
  pub first : asked_from begun (lines_of bytes) ≡ asked ∷ asked_of rest
  pub whole : at_end ≡ false → (more : List ℕ) → whole_from begun (whole_lines_of (read ++ more)) ≡ asked ∷ whole_asked_of more

-- only a part of it was taken, in which no command stands whole
pub record TakesPartOf (begun : Option Change) (bytes rest : List ℕ) : Type 0 where
  pub read : List ℕ
  pub split : bytes ≡ read ++ rest
  pub none : whole_from begun (whole_lines_of read) ≡ []

-- ---- laws

-- lines that are followed by more
abbrev pub AskedInParts : Type 0
AskedInParts = (begun : Option Change) (lines more : List Line)
    → asked_from begun (lines ++ more) ≡ whole_from begun lines ++ asked_from (end_from begun lines) more

abbrev pub WholeInParts : Type 0
WholeInParts = (begun : Option Change) (lines more : List Line)
    → whole_from begun (lines ++ more) ≡ whole_from begun lines ++ whole_from (end_from begun lines) more

-- lines that end between commands all stand whole
abbrev pub EndsWhole : Type 0
EndsWhole = (begun : Option Change) (lines : List Line) → end_from begun lines ≡ None → asked_from begun lines ≡ whole_from begun lines
