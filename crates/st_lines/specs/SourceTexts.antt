-- The text of a change, as far as its source lines were read.
use Rattle.std.specs.Prelude.{ℕ, ◌≡◌, ◌≤◌, ◌<◌, ◌+◌, ◌^◌, Bool, true, false, if◌then◌else◌, List, [], ◌∷◌, ◌++◌, length, min, take, codes, Some}
use Rattle.std.specs.Str.Lines.{strip_carriage_return}
use Rattle.st_devices.specs.Words.{words_of}
use Rattle.st_layout.specs.declared.renames.Rename.{Rename}
use Rattle.st_lines.specs.Commands.{Asked, TakesCommand, change_with, is_end, new_change}
use Rattle.st_lines.specs.declared.source_text.LineWord.{LineWord}
use Rattle.st_lines.specs.declared.source_text.LineWord.TheVariants.{Front, Whole, Other}
use Rattle.st_lines.specs.declared.source_text.Size.{Size}
use Rattle.st_lines.specs.declared.source_text.SourceText.{SourceText}

-- ---- the line that ends a text

abbrev pub end_word : List ℕ
end_word = codes "end_change"

-- whether a line that has this so far, and then these bytes, ends the text
abbrev pub ends_with : LineWord → List ℕ → Bool
ends_with (Front count) rest = is_end (words_of (take count end_word ++ rest))
ends_with Whole rest = is_end (end_word ∷ words_of rest)
ends_with Other rest = false

-- ---- what is kept of a text

-- of a text that is too long the bytes are counted up to the first that is too many
abbrev pub counted : List ℕ → ℕ
counted text = min (length text) (2 ^ 20 + 1)

-- the bytes are a text of this size, unless it is too long or found no memory, of which an empty text wants none
pub record IsStored (bytes : List ℕ) (size : Size) (text : List ℕ) : Type 0 where
  pub len : size.len ≡ counted text
  pub kept : size.is_kept ≡ true → length text ≤ 2 ^ 20 → bytes ≡ text
  pub lost : size.is_kept ≡ false → 0 < length text

-- the bytes begin with such a text
pub record IsFront (bytes : List ℕ) (size : Size) (text : List ℕ) : Type 0 where
  pub len : size.len ≡ counted text
  pub kept : size.is_kept ≡ true → length text ≤ 2 ^ 20 → (more : List ℕ) × (bytes ≡ text ++ more)
  pub lost : size.is_kept ≡ false → 0 < length text

-- the text was ended, and is this
abbrev pub HoldsText : SourceText → List ℕ → Type 0
HoldsText source text = IsStored source.bytes.items source.lines text

-- the lines so far are this text, and the line that isn't ended has these bytes, with none held back
pub record HoldsLine (source : SourceText) (text line : List ℕ) : Type 0 where
  pub lines : IsFront source.bytes.items source.lines text
  pub all : IsStored source.bytes.items source.size (text ++ line)
  pub word : (rest : List ℕ) → ends_with source.word rest ≡ is_end (words_of (line ++ rest))

-- a CR that is held back
abbrev pub held : Bool → List ℕ
held holds_cr = if holds_cr then 13 ∷ [] else []

-- the lines so far are this text, and the line that isn't ended has this part, of which a CR at its end is held back
pub record Holds (source : SourceText) (text part : List ℕ) : Type 0 where
  pub line : List ℕ
  pub is : part ≡ line ++ held source.holds_cr
  pub stripped : strip_carriage_return part ≡ line
  pub holds : HoldsLine source text line

-- ---- source lines that are taken off the bytes

-- all lines of the text were taken, with the one that ends it, or the input ended before
abbrev pub TakesLines : List Rename → Bool → Bool → SourceText → List ℕ → List ℕ → Type 0
TakesLines renames true at_end source bytes rest =
    (text : List ℕ) × TakesCommand (Some (new_change renames)) (Asked.change (change_with renames text)) at_end bytes rest × HoldsText source text
TakesLines renames false at_end source bytes rest = TakesCommand (Some (new_change renames)) Asked.unended at_end bytes rest
