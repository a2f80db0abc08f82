-- Where a message says that something stands, and how that is written.
use Rattle.std.specs.Prelude.{ℕ, List, ◌≡◌, ◌++◌, codes, length, min, take}
use Rattle.std.specs.Fmt.{decimal}
use Rattle.std.specs.Char.{encode_utf8}
use Rattle.st_messages.specs.declared.place.Place.{Place}
use Rattle.st_messages.specs.Places.{column_after, line_after}
use Rattle.st_messages.specs.declared.form.Code.{Code}

-- `FILE:LINE:COLUMN: error: `
abbrev pub place_text : List ℕ → Place → List ℕ
place_text file place = file ++ codes ":" ++ decimal place.line ++ codes ":" ++ decimal place.column ++ codes ": error: "

-- a letter, and a number behind it
abbrev pub code_text : Code → List ℕ
code_text code = encode_utf8 code.letter ++ decimal code.number

-- `FILE:LINE:COLUMN: error: C4: `
abbrev pub heading : List ℕ → Place → Code → List ℕ
heading file place code = place_text file place ++ (code_text code ++ codes ": ")

-- a line that says more
abbrev pub note_line : List ℕ → List ℕ
note_line note = codes "  note: " ++ (note ++ codes "\n")

-- a line that says what to do
abbrev pub help_line : List ℕ → List ℕ
help_line help = codes "  help: " ++ (help ++ codes "\n")

-- what stands before the bytes from here on; behind the end nothing more does
abbrev pub before : List ℕ → ℕ → List ℕ
before text start = take (min start (length text)) text

-- where these bytes stand in a text
abbrev pub place_at : List ℕ → ℕ → Place
place_at text start = record { line = line_after (before text start); column = column_after (before text start) }

-- a message got the heading of what stands here and a title in a line, and then more
abbrev pub IsTold : List ℕ → List ℕ → List ℕ → List ℕ → ℕ → Code → List ℕ → Type 0
IsTold old new file text start code title =
    (more : List ℕ) × (new ≡ old ++ (heading file (place_at text start) code ++ (title ++ (codes "\n" ++ more))))
