-- What a draft has.
use Rattle.std.specs.Prelude.{ℕ, List, [], ◌≡◌, ◌==◌, ◌++◌, codes, false, if◌then◌else◌, length}
use Rattle.std.specs.String.{string_bytes}
use Rattle.st_messages.specs.declared.draft.Draft.{Draft}

-- what is said: the title, and the lines below without their last line feed
pub record Said : Type 0 where
  pub title : List ℕ
  pub more : List ℕ

-- what a draft says so far
abbrev pub said : Draft → Said
said draft = record { title = string_bytes draft.title; more = string_bytes draft.more }

-- a text behind what was said last
abbrev pub with_text : Said → List ℕ → Said
with_text s text =
    if length s.more == 0 then record { title = s.title ++ text; more = s.more }
    else record { title = s.title; more = s.more ++ text }

-- lines, each of which ends
abbrev pub ended : List ℕ → List ℕ
ended more = if length more == 0 then [] else more ++ codes "\n"

-- a text in a line of its own below
abbrev pub with_line : Said → List ℕ → Said
with_line s text = record { title = s.title; more = ended s.more ++ text }

-- between two backticks
abbrev pub quoted : List ℕ → List ℕ
quoted shown = codes "`" ++ (shown ++ codes "`")

-- where there was memory for all, there was before, and this is said
abbrev pub Becomes : Draft → Draft → Said → Type 0
Becomes old new s = new.failed ≡ false → (old.failed ≡ false) × (said new ≡ s)

-- that, where this text is said behind what was said last
abbrev pub Adds : Draft → Draft → List ℕ → Type 0
Adds old new text = Becomes old new (with_text (said old) text)
